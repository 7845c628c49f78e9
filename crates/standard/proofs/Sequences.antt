-- Sequences of a register that come round, and two ways to the same sequence.
--     delayed        two stages of G2 added are G2 delayed
--     advanced       XB from a PRN's start is XB from all ones, advanced
-- Assumes nothing.
use mathlib.Core.Path.{◌≡◌, refl, sym, ap, ap₂, ◌∙◌}
use mathlib.Core.Bool.{Bool, ◌&&◌}
use mathlib.Core.List.{List, [], ◌∷◌}
use Prim.Native.Nat.{ℕ, zero, suc, ◌+◌, ◌-◌, ◌*◌, ◌%◌, ◌^◌, ◌≤◌, ◌<◌}
use native.Mathlib.Omega.{arith}
use lib.Dec.{T, eqb, ltb, lit<, eqb→eq, ltb→lt}
use lib.ListN.{get_or}
use Rattle.registers.specs.Times.{times}
use Rattle.registers.specs.Register.{stage, sum_of, shift, shift_g2, shift_xb}
use Rattle.registers.specs.Row.{combine}
use Rattle.registers.proofs.Repeat.{times-add, times_round}
use Rattle.registers.proofs.Below.{both, below, at}
use Rattle.registers.proofs.Linear.{after, times_linear, columns, agree}
use Rattle.registers.proofs.Shifts.{times_keeps, stage_linear, sum_of_linear}
use Rattle.registers.proofs.Shifts as shifts
use Rattle.leaps.specs.Leaps.{leap_if, leaps}
use Rattle.leaps.proofs.Grown.{grown, by_leaps}
use Rattle.starts.specs.Starts.{start_g2, stages_ca, advanced_xb}
use Rattle.starts.proofs.Rounds.{g2_round}
use Rattle.standard.specs.Tables.{code_delays}

xb_back : times shift_xb 8191 0b1111111111111 ≡ 0b1111111111111
unfolding grown columns shift sum_of stage combine leaps leap_if
xb_back = by_leaps shifts.xb 13 8191 0b1111111111111 (lit< tt) (lit< tt)

-- ---- XB advanced

pub advanced : (advance m : ℕ) → times shift_xb (m % 8191) (advanced_xb advance) ≡ times shift_xb (advance + m) 0b1111111111111
unfolding advanced_xb
advanced advance m =
    let ones : ℕ = 0b1111111111111 in
    let same : (advance + m % 8191) % 8191 ≡ (advance + m) % 8191 = omega arith in
    sym (times-add shift_xb advance (m % 8191) ones)
    ∙ times_round shift_xb 8191 ones xb_back (advance + m % 8191)
    ∙ ap (λ (n : ℕ). times shift_xb n ones) same
    ∙ sym (times_round shift_xb 8191 ones xb_back (advance + m))

-- ---- G2 delayed

columns_same : (f g : ℕ → ℕ) (i n : ℕ) → ((j : ℕ) → i ≤ j → j < i + n → f (2 ^ j) ≡ g (2 ^ j)) → columns f i n ≡ columns g i n
unfolding columns
columns_same f g i zero h = refl
columns_same f g i (suc n) h = ap₂ ◌∷◌ (h i (omega arith) (omega arith)) (columns_same f g (suc i) n (λ j a b. h j (omega arith) (omega arith)))

abbrev leaps_g2 : List ℕ
leaps_g2 = grown 10 (columns shift_g2 0 10)

-- the two stages of the k-th PRN give, at the power b of two, what stage 10 gives so many chips on as the delay leaves of 1,023
unfoldable same_chip : ℕ → ℕ → Bool
same_chip k b =
    ltb (2 ^ b) (2 ^ 10)
    && eqb (sum_of (get_or stages_ca (k * 2) 0 ∷ get_or stages_ca (k * 2 + 1) 0 ∷ []) (2 ^ b)) (stage 10 (leaps 10 10 leaps_g2 (1023 - get_or code_delays k 0) (2 ^ b)))

-- "one computed test for a table": the pairs of stages and the delays of Table 3-Ia say the same, PRN by PRN
tested : T (below 37 (λ k. below 10 (same_chip k)))
unfolding same_chip stages_ca code_delays grown columns shift sum_of stage combine leaps leap_if
tested = tt

module _ (k : ℕ) (listed : k < 37) where
  abbrev pair : List ℕ
  pair = get_or stages_ca (k * 2) 0 ∷ get_or stages_ca (k * 2 + 1) 0 ∷ []

  abbrev on : ℕ
  on = 1023 - get_or code_delays k 0

  basis : (b : ℕ) → b < 10 → sum_of pair (2 ^ b) ≡ stage 10 (times shift_g2 on (2 ^ b))
  unfolding same_chip
  basis b h =
      let passed = at 10 (same_chip k) (at 37 (λ i. below 10 (same_chip i)) tested k listed) b h in
      let parts = both (ltb (2 ^ b) (2 ^ 10)) (eqb (sum_of pair (2 ^ b)) (stage 10 (leaps 10 10 leaps_g2 on (2 ^ b)))) passed in
      let short : on < 2 ^ 10 = omega arith in
      eqb→eq (sum_of pair (2 ^ b)) (stage 10 (leaps 10 10 leaps_g2 on (2 ^ b))) parts.1
      ∙ ap (stage 10) (sym (by_leaps shifts.g2 10 on (2 ^ b) short (ltb→lt (2 ^ b) (2 ^ 10) parts.0)))

  pair_is : (r : ℕ) → r < 2 ^ 10 → sum_of pair r ≡ stage 10 (times shift_g2 on r)
  pair_is r h =
      agree (sum_of_linear pair) (after (stage_linear 10) (times_linear (shifts.g2).linear on)) 10
      (columns_same (sum_of pair) (λ x. stage 10 (times shift_g2 on x)) 0 10 (λ j a b. basis j (omega arith))) r h

  pub delayed : (p : ℕ) → sum_of pair (times shift_g2 (p % 1023) start_g2) ≡ stage 10 (times shift_g2 ((p + on) % 1023) start_g2)
  delayed p =
      let same : (p % 1023 + on) % 1023 ≡ (p + on) % 1023 = omega arith in
      pair_is (times shift_g2 (p % 1023) start_g2) (times_keeps shifts.g2 (p % 1023) start_g2 (lit< tt))
      ∙ ap (stage 10)
      (sym (times-add shift_g2 (p % 1023) on start_g2)
      ∙ times_round shift_g2 1023 start_g2 g2_round (p % 1023 + on)
      ∙ ap (λ (n : ℕ). times shift_g2 n start_g2) same)
