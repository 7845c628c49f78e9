-- A call that signals interrupted is made again.
--     tried_more    one try more
-- Assumes nothing.
use Rattle.std.proofs.Common.{ℕ, ◌+◌, Option, None, Some, arith}
use Rattle.line_programs.specs.Talks.{OneMore, AtLeast}

pub tried_more : (n : ℕ) (before after : Option ℕ) → AtLeast n before → OneMore before after → AtLeast (n + 1) after
tried_more n None None high more = tt
tried_more n None (Some m) high more = absurd more
tried_more n (Some k) None high more = absurd more
tried_more n (Some k) (Some m) high more = omega arith
