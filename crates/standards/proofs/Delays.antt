-- The delay of G2 that Table 3-Ia lists for a PRN is the one that is found: G2's register is brought on chip by chip until it is that of the delayed G2.
--     g2_reached, g2_refused         G2's register at a place of its first cycle, where open and seek lead, or refusal 2
--     prn_refused, chips_refused, chips_taken    the delayed G2 by open and Chips, or refusal 2
--     walk_begins, walk_goes, walk_ends    from a place on, by how many chips G2 becomes the delayed one
--     found, never                   so many that the delay in the table makes up its cycle, and none is left over
-- Assumes nothing.
use mathlib.Core.Path.{◌≡◌, refl, sym, ap, subst, ◌∙◌}
use mathlib.Core.Bool.{Bool, true, false, cond, ◌&&◌}
use mathlib.Core.List.{List}
use Prim.Native.Nat.{ℕ, zero, suc, ◌+◌, ◌-◌, ◌%◌, ◌≤◌, ◌<◌}
use native.Mathlib.Nat.{zero-add}
use native.Mathlib.Omega.{arith}
use lib.Dec.{T, eqb, ltb, lit≤, lit<, eqb→eq, ltb→lt}
use lib.ListN.{get_or, length, replicate}
use borrow.Author.Tests.{eq-eqb, ne_eqb}
use Rattle.std.specs.List.{fold}
use Rattle.std.specs.Int.Bits.{bit_xor}
use Rattle.registers.specs.Times.{times}
use Rattle.registers.specs.Register.{stage, sum_of, shift, shift_g1, shift_g2}
use Rattle.registers.proofs.Repeat.{times_last}
use Rattle.registers.proofs.Below.{both, below, at}
use Rattle.starts.specs.Starts.{entry_of, start_g1, start_g2, stages_of, stages_ca}
use Rattle.machine.specs.Machine.{opened, advance, step, chip, chips, is_prn}
use Rattle.machine.specs.declared.Channel.{Channel}
use Rattle.machine.proofs.Advance.{advance_none}
use Rattle.machine.proofs.Ranges.{prn_in}
use Rattle.week.specs.Standing.{standing_at, generator_at}
use Rattle.week.specs.Week.{course_g}
use Rattle.week.proofs.LawOfTheWeek.{at_place}
use Rattle.standard.specs.Tables.{code_delays}
use Rattle.standard.proofs.Phases.{phase_runs}
use Rattle.refusals.specs.Refusal.{number_of}
use Rattle.refusals.specs.declared.Refusal.{Refusal}
use Rattle.refusals.specs.declared.Refusal.TheVariants as refusals
use Rattle.call_open.specs.Open.{channel, refusal, open_reply}
use Rattle.call_open.proofs.Opens.{open_accepted}
use Rattle.gps_chips.specs.Chips.{chips_answer, chips_buffer, by_the_machine}
use Rattle.gps_chips.proofs.Answers.{fits}
use Rattle.states.specs.States.{Reached, reached, unreached, reach_reply}
use Rattle.states.proofs.Reaches.{reach_accepted, reach_prn, apart}
use Rattle.pages.specs.declared.values.Value.TheVariants as values
use Rattle.pages.specs.Cells.{value}
use Rattle.standards.specs.CodePhases.{register_from, delayed_g2, delay_cell}

-- ---- G2 at a place

g2_register : (prn on : ℕ) → on < 1023 → (advance on (opened 1 prn)).second.register ≡ times shift_g2 on start_g2
unfolding generator_at
g2_register prn on within =
    let same : on % 1023 % 1023 ≡ on = omega (arith, within) in
    let whole : (standing_at course_g on).phase ≡ on = phase_runs course_g on (omega (arith, within)) (omega (arith, within)) ∙ same in
    ap (λ (ch : Channel). ch.second.register) (at_place 1 prn on (omega (arith, within))) ∙ ap (λ (n : ℕ). times shift_g2 n start_g2) whole

abbrev register_there : Reached → ℕ
register_there (reached leaps ch) = ch.second.register
register_there (unreached n) = 0

module _ (prn on : ℕ) (within : on < 1023) where
  far : on < 618710400000
  far = omega (arith, within)

  pub g2_reached : (leaps : ℕ) (ch : Channel) → reached leaps ch ≡ reach_reply 1 prn on → (is_prn prn ≡ true) × (ch.second.register ≡ times shift_g2 on start_g2)
  g2_reached leaps ch e = by (is_prn prn) refl
    where
      by : (p : Bool) → is_prn prn ≡ p → (is_prn prn ≡ true) × (ch.second.register ≡ times shift_g2 on start_g2)
      by true p = (p, ap register_there (e ∙ reach_accepted 1 prn on refl p far) ∙ g2_register prn on within)
      by false p = absurd (apart leaps 2 ch (e ∙ reach_prn 1 prn on refl p))

  pub g2_refused : (n : ℕ) → unreached n ≡ reach_reply 1 prn on → (is_prn prn ≡ false) × (n ≡ 2)
  g2_refused n e = by (is_prn prn) refl
    where
      second : unreached n ≡ unreached 2 → n ≡ 2
      second q = cc

      by : (p : Bool) → is_prn prn ≡ p → (is_prn prn ≡ false) × (n ≡ 2)
      by true p = absurd (apart _ n _ (sym (e ∙ reach_accepted 1 prn on refl p far)))
      by false p = (p, second (e ∙ reach_prn 1 prn on refl p))

-- ---- the delayed G2

pub prn_refused : (prn n : ℕ) → refusal n ≡ open_reply 1 prn → (is_prn prn ≡ false) × (n ≡ 2)
unfolding open_reply
prn_refused prn n = by (is_prn prn)
  where
    by : (p : Bool) → refusal n ≡ cond p (channel (opened 1 prn)) (refusal 2) → (p ≡ false) × (n ≡ 2)
    by true e = cc
    by false e = (refl, cc)

not_0 : (e : Refusal) → number_of e ≡ 0 → ⊥
not_0 refusals.Signal none = let same : ◌≡◌ {A = ℕ} 1 0 = none in omega (arith, same)
not_0 refusals.Prn none = let same : ◌≡◌ {A = ℕ} 2 0 = none in omega (arith, same)
not_0 refusals.Place none = let same : ◌≡◌ {A = ℕ} 3 0 = none in omega (arith, same)
not_0 refusals.Channel none = let same : ◌≡◌ {A = ℕ} 4 0 = none in omega (arith, same)
not_0 refusals.Count none = let same : ◌≡◌ {A = ℕ} 5 0 = none in omega (arith, same)
not_0 refusals.Room none = let same : ◌≡◌ {A = ℕ} 6 0 = none in omega (arith, same)
not_0 refusals.Epoch none = let same : ◌≡◌ {A = ℕ} 7 0 = none in omega (arith, same)
not_0 refusals.Chip none = let same : ◌≡◌ {A = ℕ} 8 0 = none in omega (arith, same)
not_0 refusals.Line none = let same : ◌≡◌ {A = ℕ} 9 0 = none in omega (arith, same)

module _ (prn : ℕ) (ch : Channel) (given : channel ch ≡ open_reply 1 prn) where
  listed : is_prn prn ≡ true
  listed = (open_accepted 1 prn ch (sym given)).1

  chips_answered : chips_answer 1 prn 0 10 ≡ 0
  chips_answered = sym (fits 1 prn 0 10 (record { is_signal = refl; is_prn = listed; within = lit< tt; short = lit≤ tt }))

  pub chips_refused : (e : Refusal) → number_of e ≡ chips_answer 1 prn 0 10 → ⊥
  chips_refused e is = not_0 e (is ∙ chips_answered)

  pub chips_taken : (after : List ℕ) (r : ℕ) → after ≡ chips_buffer by_the_machine 1 prn 0 (replicate 10 0) → r ≡ register_from after
      → (is_prn prn ≡ true) × (bit_xor r ch.first.register ≡ delayed_g2 prn)
  unfolding chips_buffer opened
  chips_taken after r filled is =
      let written : after ≡ chips 10 (opened 1 prn) = filled ∙ rw chips_answered (ap (chips 10) (advance_none (opened 1 prn))) in
      let g1 : ch.first.register ≡ start_g1 = ap (λ (c : Channel). c.first.register) (open_accepted 1 prn ch (sym given)).2 in
      (listed, λ j. bit_xor ((is ∙ ap register_from written) j) (g1 j))

-- ---- by how many chips G2 becomes the delayed one

-- by how many chips a register of G2 becomes another, n if not by fewer
unfoldable pub shifts_to : ℕ → ℕ → ℕ → ℕ
shifts_to zero w r = 0
shifts_to (suc n) w r = cond (eqb r w) 0 (suc (shifts_to n w (shift_g2 r)))

module _ (w : ℕ) where
  abbrev pub walk : ℕ → ℕ
  walk on = on + shifts_to (1023 - on) w (times shift_g2 on start_g2)

  pub walk_begins : shifts_to 1023 w start_g2 ≡ walk 0
  unfolding times
  walk_begins = sym (zero-add (shifts_to 1023 w start_g2))

  module _ (on : ℕ) (within : on < 1023) where
    left : 1023 - on ≡ suc (1023 - suc on)
    left = omega (arith, within)

    pub walk_goes : (times shift_g2 on start_g2 ≡ w → ⊥) → walk on ≡ walk (on + 1)
    unfolding shifts_to
    walk_goes other =
        let r : ℕ = times shift_g2 on start_g2 in
        let more : shifts_to (1023 - on) w r ≡ suc (shifts_to (1023 - suc on) w (times shift_g2 (suc on) start_g2)) =
        ap (λ (n : ℕ). shifts_to n w r) left
        ∙ rw (ne_eqb r w other) (ap (λ (q : ℕ). suc (shifts_to (1023 - suc on) w q)) (sym (times_last shift_g2 on start_g2)))
        in
        let next : walk on ≡ walk (suc on) = omega (arith, more) in
        let one : suc on ≡ on + 1 = omega arith in
        next ∙ ap walk one

    pub walk_ends : times shift_g2 on start_g2 ≡ w → walk on ≡ on
    unfolding shifts_to
    walk_ends same =
        let none : shifts_to (1023 - on) w (times shift_g2 on start_g2) ≡ 0 = ap (λ (n : ℕ). shifts_to n w (times shift_g2 on start_g2)) left ∙ rw (eq-eqb (times shift_g2 on start_g2) w same) refl in
        omega (arith, none)

-- the delay of the k-th PRN and the chips by which G2 becomes the delayed one make up its cycle
unfoldable makes_up : ℕ → Bool
makes_up k = let n = shifts_to 1023 (delayed_g2 (suc k)) start_g2 in ltb n 1023 && eqb (n + get_or code_delays k 0) 1023

tested : T (below 37 makes_up)
unfolding makes_up shifts_to code_delays chips chip step opened stages_of stages_ca shift sum_of stage
tested = tt

delay_of : (prn : ℕ) → is_prn prn ≡ true → (shifts_to 1023 (delayed_g2 prn) start_g2 < 1023) × (shifts_to 1023 (delayed_g2 prn) start_g2 + entry_of code_delays prn ≡ 1023)
unfolding makes_up
delay_of prn is =
    let listed = prn_in prn is in
    let row : suc (prn - 1) ≡ prn = omega (arith, listed.first) in
    let n : ℕ = shifts_to 1023 (delayed_g2 (suc (prn - 1))) start_g2 in
    let parts = both (ltb n 1023) (eqb (n + get_or code_delays (prn - 1) 0) 1023) (at 37 makes_up tested (prn - 1) (omega (arith, listed.first, listed.last))) in
    let found : (n < 1023) × (n + entry_of code_delays prn ≡ 1023) = (ltb→lt n 1023 parts.0, eqb→eq (n + get_or code_delays (prn - 1) 0) 1023 parts.1) in
    subst (λ (p : ℕ). (shifts_to 1023 (delayed_g2 p) start_g2 < 1023) × (shifts_to 1023 (delayed_g2 p) start_g2 + entry_of code_delays prn ≡ 1023)) row found

module _ (prn w on : ℕ) (is : is_prn prn ≡ true) (wanted : w ≡ delayed_g2 prn) (walked : shifts_to 1023 w start_g2 ≡ on + shifts_to (1023 - on) w (times shift_g2 on start_g2)) where
  whole : shifts_to 1023 (delayed_g2 prn) start_g2 ≡ on + shifts_to (1023 - on) w (times shift_g2 on start_g2)
  whole = ap (λ (x : ℕ). shifts_to 1023 x start_g2) (sym wanted) ∙ walked

  pub found : on < 1023 → (r : ℕ) → r ≡ times shift_g2 on start_g2 → r ≡ w → value (values.Delay (1023 - on)) ≡ delay_cell prn
  found within r there same =
      let ends : on + shifts_to (1023 - on) w (times shift_g2 on start_g2) ≡ on = walk_ends w on within (sym there ∙ same) in
      let table = delay_of prn is in
      let delay : 1023 - on ≡ entry_of code_delays prn = omega (arith, whole, ends, table.1, within) in
      rw is (ap (λ (d : ℕ). value (values.Delay d)) delay)

  pub never : 1023 ≤ on → ⊥
  never late = let table = delay_of prn is in omega (arith, whole, table.0, late)
