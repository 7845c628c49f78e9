use Rattle.std.proofs.Common.{rules, arith, length}
use Rattle.lines.proofs.LineReplies.{refused_by_chips, refused_by_count, accepted, counted, none_counted, many_counted, few_asked, most_asked, filled}
use Rattle.lines.proofs.Asked.chips.Goals.{then-self-eq0-via-then-self-eq0, then-self-eq0-via-else-self-eq0+then-self-gt-MOST_COUNT}
use Rattle.lines.proofs.Asked.chips.Goals as goal

pub returns-in_err-gps_chips : goal.returns-in_err-gps_chips
returns-in_err-gps_chips c =
    let a = c.args.self in
    let most = most_asked a.count in
    search (rules, refused_by_chips a.signal a.prn a.place a.count (length c.args.buffer.now) (omega arith))

pub returns-then-self-eq0 : goal.returns-then-self-eq0
returns-then-self-eq0 c =
    let a = c.args.self in
    let most = most_asked a.count in
    let by_count = refused_by_count a.signal a.prn a.place a.count (length c.args.buffer.now) (omega arith) c.in_ok-gps_chips.ensures.answer in
    elim c.then-self-eq0.branch [
      | then-self-eq0-via-then-self-eq0 w ↦ by_count (none_counted a.count w.if-self-eq0.true)
      | then-self-eq0-via-else-self-eq0+then-self-gt-MOST_COUNT w ↦ by_count (many_counted a.count w.if-self-gt-MOST_COUNT.true)
    ]

pub returns : goal.returns
returns c =
    let a = c.args.self in
    let most = most_asked a.count in
    let all = few_asked a.count (omega arith) in
    let old = c.args.buffer.now in
    let answer = c.in_ok-gps_chips.ensures.answer in (
      accepted a.signal a.prn a.place a.count (length old) (omega arith) answer (counted a.count (omega arith) (omega arith)),
      filled a.signal a.prn a.place a.count old c.gps_chips.new.buffer (omega arith) answer c.in_ok-gps_chips.ensures.chips_by_the_machine,
    )
