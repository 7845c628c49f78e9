-- The phases that the standards set are those where the machine's generators stand.
-- Assumes nothing.
use mathlib.Core.Path.{◌≡◌, sym, ◌∙◌}
use mathlib.Core.Logic.{⊎_elim}
use Prim.Native.Nat.{ℕ, ◌+◌, ◌-◌, ◌%◌, ◌≤◌, ◌<◌}
use native.Mathlib.Omega.{arith}
use borrow.Author.Tests.{lt-ltb, le-ltb}
use Rattle.week.specs.declared.Course.{Course}
use Rattle.week.specs.Standing.{in_period, standing_at}
use Rattle.week.specs.Week.{course_x1b, course_x2a, course_x2b}
use Rattle.week.proofs.Circle.{less_or}
use Rattle.standard.specs.Standard.{least, week, last_x1a, held_at_last, phase_x1b, phase_x2a, phase_x2b}

-- ---- where a generator stands

module _ (c : Course) (w : ℕ) where
  pub phase_runs : w < c.stop → w % c.period < c.runs → (standing_at c w).phase ≡ w % c.period % c.cycle
  unfolding standing_at in_period
  phase_runs h i = rw (lt-ltb w c.stop h, lt-ltb (w % c.period) c.runs i)

  pub phase_held : w < c.stop → c.runs ≤ w % c.period → (standing_at c w).phase ≡ c.runs % c.cycle
  unfolding standing_at in_period
  phase_held h i = rw (lt-ltb w c.stop h, le-ltb (w % c.period) c.runs i)

  pub phase_stopped : c.stop ≤ w → (standing_at c w).phase ≡ c.stop % c.period % c.cycle
  unfolding standing_at in_period
  phase_stopped h = rw (le-ltb w c.stop h)

  -- up to the hold at the week's end: "held in the final state"
  own_phase : w < c.stop → (standing_at c w).phase ≡ least (w % c.period) c.runs % c.cycle
  own_phase h =
      ⊎_elim
      (λ (i : w % c.period < c.runs). phase_runs h i ∙ sym (rw (lt-ltb (w % c.period) c.runs i)))
      (λ (i : c.runs ≤ w % c.period). phase_held h i ∙ sym (rw (le-ltb (w % c.period) c.runs i)))
      (less_or (w % c.period) c.runs)

-- ---- the hold at the week's end

module _ (last : ℕ) (phase : ℕ → ℕ) (t : ℕ) where
  before_last : t < last_x1a → held_at_last last phase t ≡ phase t
  before_last h = rw (lt-ltb t last_x1a h)

  in-last : last_x1a ≤ t → held_at_last last phase t ≡ least (phase last_x1a + (t - last_x1a)) last
  in-last h = rw (le-ltb t last_x1a h)

least_left : (a b : ℕ) → a < b → least a b ≡ a
least_left a b h = rw (lt-ltb a b h)

least_right : (a b : ℕ) → b ≤ a → least a b ≡ b
least_right a b h = rw (le-ltb a b h)

pub x1b_phase : (w : ℕ) → w < week → (standing_at course_x1b w).phase ≡ phase_x1b w
x1b_phase w h =
    ⊎_elim
    (λ (i : w < last_x1a). own_phase course_x1b w h ∙ sym (before_last 4092 (λ t. least (t % 15345000) 15344656 % 4093) w i))
    (λ (i : last_x1a ≤ w).
    ⊎_elim
    (λ (j : w % 15345000 < 15344656).
    let there : w % 15345000 % 4093 ≡ 344 + (w - 6187103995908) = omega arith in
    phase_runs course_x1b w h j ∙ there ∙ sym (least_left (344 + (w - 6187103995908)) 4092 (omega arith)))
    (λ (j : 15344656 ≤ w % 15345000). phase_held course_x1b w h j ∙ sym (least_right (344 + (w - 6187103995908)) 4092 (omega arith)))
    (less_or (w % 15345000) 15344656)
    ∙ sym (in-last 4092 (λ t. least (t % 15345000) 15344656 % 4093) w i))
    (less_or w last_x1a)

pub x2a_phase : (w : ℕ) → w < week → (standing_at course_x2a w).phase ≡ phase_x2a w
x2a_phase w h =
    ⊎_elim
    (λ (i : w < last_x1a). own_phase course_x2a w (omega arith) ∙ sym (before_last 4091 (λ t. least (t % 15345037) 15344999 % 4092) w i))
    (λ (i : last_x1a ≤ w).
    ⊎_elim
    (λ (j : w < 6187103998930).
    let there : w % 15345037 % 4092 ≡ 1069 + (w - 6187103995908) = omega arith in
    phase_runs course_x2a w j (omega arith) ∙ there ∙ sym (least_left (1069 + (w - 6187103995908)) 4091 (omega arith)))
    (λ (j : 6187103998930 ≤ w). phase_stopped course_x2a w j ∙ sym (least_right (1069 + (w - 6187103995908)) 4091 (omega arith)))
    (less_or w 6187103998930)
    ∙ sym (in-last 4091 (λ t. least (t % 15345037) 15344999 % 4092) w i))
    (less_or w last_x1a)

pub x2b_phase : (w : ℕ) → w < week → (standing_at course_x2b w).phase ≡ phase_x2b w
x2b_phase w h =
    ⊎_elim
    (λ (i : w < last_x1a). own_phase course_x2b w (omega arith) ∙ sym (before_last 4092 (λ t. least (t % 15345037) 15344656 % 4093) w i))
    (λ (i : last_x1a ≤ w).
    ⊎_elim
    (λ (j : w < 6187103999034).
    let there : w % 15345037 % 4093 ≡ 966 + (w - 6187103995908) = omega arith in
    phase_runs course_x2b w j (omega arith) ∙ there ∙ sym (least_left (966 + (w - 6187103995908)) 4092 (omega arith)))
    (λ (j : 6187103999034 ≤ w). phase_stopped course_x2b w j ∙ sym (least_right (966 + (w - 6187103995908)) 4092 (omega arith)))
    (less_or w 6187103999034)
    ∙ sym (in-last 4092 (λ t. least (t % 15345037) 15344656 % 4093) w i))
    (less_or w last_x1a)
