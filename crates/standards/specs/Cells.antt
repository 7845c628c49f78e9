-- What a cell of the tables tells of chips.
-- Assumes nothing.
use Rattle.std.specs.Prelude.{ℕ, List, Result, ◌≡◌, MatchResult}
use Rattle.refusals.specs.Refusal.{number_of}
use Rattle.refusals.specs.declared.Refusal.{Refusal}
use Rattle.gps_chips.specs.Chips.{chips_answer, by_the_standards}

-- what shows n of the standards' chips from a place on, where Chips gives them, and else the refusal by Chips
abbrev pub Told : {A : Type 0} → ℕ → ℕ → ℕ → ℕ → (A → List ℕ → Type 0) → Result A Refusal → Type 0
Told signal prn place n shows r =
    MatchResult r (λ a. (chips_answer signal prn place n ≡ 0) × shows a (by_the_standards signal prn place n)) (λ e. number_of e ≡ chips_answer signal prn place n)
