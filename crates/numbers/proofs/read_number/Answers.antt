use Rattle.std.proofs.Common.{◌≡◌, sym, ◌∙◌, arith}
use Rattle.numbers.specs.Numbers.{of_read, read_number}
use Rattle.numbers.proofs.Bytes.{first_digit}
use Rattle.numbers.proofs.Numbers.{read_back}
use Rattle.numbers.proofs.read_number.Goals as goal

-- what the digits behind the first say is what a number says
pub returns-in-len1-up-clause-back : goal.returns-in-len1-up-clause-back
returns-in-len1-up-clause-back c =
    let whole : of_read c.read_digits.result ≡ read_number c.args.most c.args.mark c.args.text.now
    = c.read_digits.ensures.value ∙ rw c.digit_value.ensures (sym (first_digit c.args.most c.args.mark c.args.text.now (sym c.is_digit.ensures ∙ c.if-is_digit.true)))
    in
    read_back c.args.most c.args.mark c.args.text.now c.read_digits.result (omega (arith, c.ranges.most.fits)) whole
