use Rattle.std.proofs.Common.{◌≡◌, ◌<◌, ◌^◌, true, drop}
use Rattle.fields.specs.Fields.{digits, value_from, value}
use Rattle.fields.proofs.number.Given as goal

abbrev pub invariant-loop-b : goal.invariant-loop-b
invariant-loop-b l = record {
  rest : value l.s ≡ value_from l.n (drop l.b-index l.s);
  digits_left : digits (drop l.b-index l.s) ≡ true;
  small : l.n < 10 ^ l.b-index;
}
