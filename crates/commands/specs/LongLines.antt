-- How long a command is at most.
-- Assumes nothing.
use Rattle.std.specs.Prelude.{ℕ, ◌≡◌, List, take, Option, None}
use Rattle.machine.specs.declared.Channel.{Channel}
use Rattle.texts.specs.Saying.{Plain}
use Rattle.commands.specs.Commands.{command_of}

-- No command is longer than 640 bytes: a line that has no newline among so many is none.
abbrev pub LongLines : Type 0
LongLines = (last : Option Channel) (line : List ℕ) → Plain (take 640 line) → command_of last line ≡ None
