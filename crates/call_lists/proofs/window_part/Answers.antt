use Rattle.std.proofs.Common.{rules, ◌≡◌, [], get_or}
use Rattle.call_window.specs.Window.{window_reply}
use Rattle.call_lists.specs.Memory.{part_of}
use Rattle.call_lists.proofs.Parts.{put_part}
use Rattle.call_lists.proofs.window_part.Goals as goal

pub returns-in-Ok-clause-memory : goal.returns-in-Ok-clause-memory
returns-in-Ok-clause-memory g c =
    let buffers : get_or (window_reply c.args.ch c.args.count (part_of c.args.part c.args.memory.now) c.args.at).buffers 0 [] ≡ c.window-answer.new.buffer = search rules in
    rw buffers (put_part c.args.part c.args.memory.now c.window-answer.new.buffer _ _ c.window-answer.auto.buffer c.bounds-start.ensures.start c.bounds-start.ensures.end)

pub returns-in-Err-clause-memory : goal.returns-in-Err-clause-memory
returns-in-Err-clause-memory g c =
    let buffers : get_or (window_reply c.args.ch c.args.count (part_of c.args.part c.args.memory.now) c.args.at).buffers 0 [] ≡ c.window-answer.new.buffer = search rules in
    rw buffers (put_part c.args.part c.args.memory.now c.window-answer.new.buffer _ _ c.window-answer.auto.buffer c.bounds-start.ensures.start c.bounds-start.ensures.end)
