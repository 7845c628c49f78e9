use Rattle.std.proofs.Common.{rules, sym}
use Rattle.call_lists.specs.declared.Call.TheVariants.{Seek}
use Rattle.call_lists.proofs.Walk.{along_start, along_on, along_at_end}
use Rattle.call_lists.proofs.Listed.{opens, replies_told, list_right, memory_right}
use Rattle.call_lists.proofs.run.Goals as goal

pub loop-call-init : goal.loop-call-init
loop-call-init g c = along_start g.T.Listener.has_heard c.args.listener.now c.in_ok-ch.ch c.args.memory.now c.args.calls.now

pub loop-call-preserved : goal.loop-call-preserved
loop-call-preserved g c =
    along_on g.T.Listener.has_heard _ _ _ _ _ _ _ _ _ _ c.loop-call.call-index (Seek 0) c.loop-call-test.true c.loop-call.invariant
    (search rules) (search rules) (search rules)

pub returns-clause-opened : goal.returns-clause-opened
returns-clause-opened g c = opens c.args.signal c.args.prn (sym c.in_ok-ch.ensures.reply)

pub returns-clause-list : goal.returns-clause-list
returns-clause-list g c =
    let end = along_at_end g.T.Listener.has_heard c.loop-call-test.false c.loop-call.invariant in
    (_, replies_told c.args.signal c.args.prn (sym c.in_ok-ch.ensures.reply) end, list_right c.args.signal c.args.prn (sym c.in_ok-ch.ensures.reply) end)

pub returns-clause-replies : goal.returns-clause-replies
returns-clause-replies g c =
    replies_told c.args.signal c.args.prn (sym c.in_ok-ch.ensures.reply) (along_at_end g.T.Listener.has_heard c.loop-call-test.false c.loop-call.invariant)

pub returns-clause-memory : goal.returns-clause-memory
returns-clause-memory g c =
    memory_right c.args.signal c.args.prn (sym c.in_ok-ch.ensures.reply) (along_at_end g.T.Listener.has_heard c.loop-call-test.false c.loop-call.invariant)
