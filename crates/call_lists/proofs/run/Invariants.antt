use Rattle.std.proofs.Common.{drop}
use Rattle.call_lists.proofs.Walk.{Along}
use Rattle.call_lists.proofs.run.Given as goal

abbrev pub invariant-loop-call : goal.invariant-loop-call
invariant-loop-call g l =
    Along g.T.Listener.has_heard l.fn.listener l.listener l.initial.ch l.ch l.fn.memory l.memory l.calls (drop l.call-index l.calls)
