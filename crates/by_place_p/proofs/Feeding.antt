-- What a source gives.
--     zeros, ones   columns of the same chip
--     mod_on        so many places on, in the same period
--     running       a source of a generator that runs gives its chips
--     holding       and one of a generator that is held gives the chip at which it is held
--     still_held    where it is held at the end of a period
--     told          the same, of a course and a place that calls have given
-- Assumes nothing.
use Rattle.std.proofs.Common.{◌≡◌, ℕ, zero, suc, ◌+◌, ◌*◌, ◌/◌, ◌%◌, ◌^◌, ◌<◌, ◌≤◌, true, false, List, get_or, arith, refl, sym, ap, subst, ◌∙◌}
use Rattle.std.specs.Prelude.{replicate, cond, eqb}
use Rattle.std.proofs.lemmas.Simd.{length-replicate, get_or-replicate}
use Rattle.std.proofs.Math.Nat.{mod-add-mod, mod-eq_of_lt, mod-lt, zero-div}
use Rattle.std.proofs.lemmas.Nat.{mod-mul-add, div-add-mod'}
use Rattle.registers.proofs.Below.{equal_at}
use Rattle.week.specs.declared.Course.{Course}
use Rattle.week.specs.Standing.{standing_at}
use Rattle.standard.proofs.Phases.{phase_runs, phase_held}
use Rattle.columns.specs.Columns.{Round}
use Rattle.by_place_p.specs.Feeds.{Plan, Feeds, Same}
use Rattle.by_place_p.specs.declared.Source.{Source}

-- ---- columns of the same chip

-- no digit of 0 is 1
zero_digit : (k : ℕ) → 0 / 2 ^ k % 2 ≡ 0
zero_digit k = ap (λ (x : ℕ). x % 2) (zero-div (2 ^ k))

pub zeros : Same false (replicate 4108 0)
zeros cycle h =
    record {
      room = rw (length-replicate {A = ℕ} 4108 0) (omega (arith, h));
      tells = λ q k l m. ap (λ x. x / 2 ^ k % 2) (get_or-replicate 4108 q 0 0 (omega (arith, h, l))) ∙ zero_digit k;
    }

pub ones : Same true (replicate 4108 255)
ones cycle h =
    record {
      room = rw (length-replicate {A = ℕ} 4108 255) (omega (arith, h));
      tells = λ q k l m. ap (λ x. x / 2 ^ k % 2) (get_or-replicate 4108 q 255 0 (omega (arith, h, l))) ∙ equal_at 8 (λ i. 255 / 2 ^ i % 2) (λ i. 1) tt k m;
    }

-- ---- a generator

-- a chip that is asked whether it is 1
digit_back : (b : ℕ) → b < 2 → cond (eqb b 1) 1 0 ≡ b
digit_back zero h = refl
digit_back (suc zero) h = refl
digit_back (suc (suc b)) h = absurd (omega (arith, h))

-- j more in the same period
pub mod_on : (t j p : ℕ) → t % p + j < p → (t + j) % p ≡ t % p + j
mod_on t j p h =
    let parts : t + j ≡ t / p * p + (t % p + j) = omega (arith, div-add-mod' t p) in
    ap (λ x. x % p) parts ∙ mod-mul-add (t / p) p (t % p + j) h

module _ (c : Course) (p : Plan c) (t : ℕ) (s : Source) (some : 0 < s.left) (x : ℕ → ℕ) where
  -- from its phase on, to the hold or the week's end
  pub running : Round s.columns.now c.cycle x → s.phase ≡ t % c.period % c.cycle → t < c.stop → t % c.period + s.left ≤ c.runs → t + s.left ≤ c.stop → Feeds s c x t
  running r phase before runs stops =
      record {
        some = some;
        in_week = omega (arith, stops, p.stop_in);
        in_cycle = rw phase (mod-lt (t % c.period) p.some);
        room = r.room;
        tells = (
          x,
          r,
          λ j h.
              let later : (t + j) % c.period ≡ t % c.period + j = mod_on t j c.period (omega (arith, runs, h, p.runs_in)) in
              ap x
              (ap (λ n. (n + j) % c.cycle) phase
              ∙ mod-add-mod (t % c.period) c.cycle j
              ∙ ap (λ n. n % c.cycle) (sym later)
              ∙ sym (phase_runs c (t + j) (omega (arith, stops, h)) (rw later (omega (arith, runs, h))))),
        );
      }

  -- held at a phase, whose chip is the lowest digit of that column
  pub holding : (columns : List ℕ) → Round columns c.cycle x → (phase : ℕ) → phase < c.cycle → s.phase ≡ 0 → t + s.left ≤ c.week
      → Same (eqb (get_or columns phase 0 % 2) 1) s.columns.now → ((j : ℕ) → j < s.left → (standing_at c (t + j)).phase ≡ phase) → Feeds s c x t
  holding columns r phase in_cycle at_first in_week same stays =
      let none : phase + 0 * 16 ≡ phase = omega arith in
      let bit = get_or columns phase 0 % 2 in
      record {
        some = some;
        in_week = in_week;
        in_cycle = omega (arith, at_first, p.some);
        room = (same c.cycle p.not_long).room;
        tells = (
          λ q. cond (eqb bit 1) 1 0,
          same c.cycle p.not_long,
          λ j h.
              digit_back bit (mod-lt (get_or columns phase 0) (omega arith))
              ∙ first (get_or columns phase 0)
              ∙ r.tells phase 0 (omega (arith, in_cycle)) (omega arith)
              ∙ ap (λ n. x (n % c.cycle)) none
              ∙ ap x (mod-eq_of_lt in_cycle ∙ sym (stays j h)),
        );
      }
    where
      first : (n : ℕ) → n % 2 ≡ n / 2 ^ 0 % 2
      first n = omega arith

-- ---- where it is held

pub still_held : (c : Course) (t left : ℕ) → c.runs ≤ t % c.period → t % c.period + left ≤ c.period → t + left ≤ c.stop
    → (j : ℕ) → j < left → (standing_at c (t + j)).phase ≡ c.runs % c.cycle
still_held c t left held in_period in_week j h =
    let later : (t + j) % c.period ≡ t % c.period + j = mod_on t j c.period (omega (arith, in_period, h)) in
    phase_held c (t + j) (omega (arith, in_week, h)) (rw later (omega (arith, held)))

-- ---- what calls have given

pub told : (t : List ℕ) (s : Source) (k c : Course) (x : ℕ → ℕ) (place at : ℕ) → k ≡ c → place ≡ at → Round t c.cycle x
    → ((y : ℕ → ℕ) → Round t k.cycle y → Feeds s k y place) → Feeds s c x at
told t s k c x place at e f r feeds =
    subst (λ (p : ℕ). Feeds s c x p) f (subst (λ (m : Course). Feeds s m x place) e (feeds x (subst (λ (m : Course). Round t m.cycle x) (sym e) r)))
