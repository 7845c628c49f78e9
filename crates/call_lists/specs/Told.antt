-- What one who listens to a list of calls was told.
-- Assumes nothing.
use Rattle.std.specs.Prelude.{List, ◌++◌}
use Rattle.replies.specs.Reply.{Reply}

-- From the state `old` to the state `new` it may have been told these replies, in this order: whatever history `old` has, `new` has that one and these behind it.
-- Of a listener that keeps each reply that is exact.
abbrev pub Told : {A : Type 0} → (A → List Reply → Type 0) → A → A → List Reply → Type 0
Told has_heard old new replies = (history : List Reply) → has_heard old history → has_heard new (history ++ replies)
