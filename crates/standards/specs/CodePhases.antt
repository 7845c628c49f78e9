-- What the tables tell of C/A's code of a PRN: Table 3-Ia, the two stages of G2 and the code delay.
-- Assumes nothing.
use Rattle.std.specs.Prelude.{ℕ, ◌+◌, ◌*◌, ◌%◌, true, false, cond, List, fold, Result, ◌≡◌, MatchResult}
use Rattle.std.specs.Int.Bits.{bit_xor}
use Rattle.starts.specs.Starts.{entry_of, start_g1, stages_of}
use Rattle.machine.specs.Machine.{opened, chips, is_prn}
use Rattle.refusals.specs.Refusal.{number_of}
use Rattle.refusals.specs.declared.Refusal.{Refusal}
use Rattle.pages.specs.declared.values.Value.TheVariants as values
use Rattle.pages.specs.Cells.{Cell, value, refused}
use Rattle.standard.specs.Tables.{code_delays}

-- ---- the cells

-- the two stages of G2, or refusal 2
abbrev pub stages_cell : ℕ → Cell
stages_cell prn = cond (is_prn prn) (value (values.Stages (stages_of prn).first (stages_of prn).second)) (refused 2)

-- the code delay as the standard's table lists it, or refusal 2
abbrev pub delay_cell : ℕ → Cell
delay_cell prn = cond (is_prn prn) (value (values.Delay (entry_of code_delays prn))) (refused 2)

-- ---- for the functions that find the delay

-- what is so of the answer where the PRN is one, and else refusal 2
abbrev pub ByPrn : {A : Type 0} → ℕ → (A → Type 0) → Result A Refusal → Type 0
ByPrn prn so r = MatchResult r (λ a. (is_prn prn ≡ true) × so a) (λ e. (is_prn prn ≡ false) × (number_of e ≡ 2))

-- the register of ten stages that gives these chips, ten of them, at its stage 10
abbrev pub register_from : List ℕ → ℕ
register_from = fold (λ r c. (r * 2 + c) % 1024) 0

-- the first ten chips of the delayed G2 of a PRN as such a register: C/A's less G1's
abbrev pub delayed_g2 : ℕ → ℕ
delayed_g2 prn = bit_xor (register_from (chips 10 (opened 1 prn))) start_g1
