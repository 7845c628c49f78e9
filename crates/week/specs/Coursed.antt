-- What a course owes that a generator is brought along by leaps.
-- Assumes nothing.
use Rattle.std.specs.Prelude.{ℕ, ◌+◌, ◌^◌, Bool, ◌&&◌, ltb, leb}
use Rattle.week.specs.declared.Course.{Course}

-- its numbers fit the code's, and a phase has at most so many binary digits
abbrev pub fitting : ℕ → Course → Bool
fitting digits c =
    ltb 0 c.cycle && ltb 0 c.period && ltb c.period (2 ^ 32) && leb c.runs c.period && leb c.week (c.stop + 2 ^ 32) && leb c.cycle (2 ^ digits)
