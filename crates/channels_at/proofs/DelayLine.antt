-- P's delay line by words of X2.
--     line_is         the line after some chips of a word
--     Filled          the line as far as a place, filled from 37 places before another, or from place 0
--     filled_first, filled_more, filled_all   none taken in, some more, and all
-- Assumes nothing.
use Prim.Native.Nat.{ℕ, zero, suc, ◌+◌, ◌-◌, ◌*◌, ◌/◌, ◌%◌, ◌^◌, ◌<◌, ◌≤◌}
use mathlib.Core.Path.{◌≡◌, refl, sym, ap, ap₂, ◌∙◌}
use native.Mathlib.Nat.{add-zero, zero-add, mul-one, mul_assoc, pow-suc, mod-eq_of_lt, zero-mul, sub_self, le_refl}
use native.Mathlib.Omega.{arith}
use lib.Bits.{bit_xor}
use lib.Dec.{lit<}
use lib.Pow.{high, shr-shr}
use Rattle.registers.specs.Register.{stage}
use Rattle.machine.specs.Inner.{line_from}
use Rattle.machine.specs.Signals.{signal_p, x2a, x2b}
use Rattle.machine.proofs.Lines.{line-lt, line-add}
use Rattle.sequences.specs.Sequences.{Tells}
use Rattle.week.specs.Standing.{generator_at}
use Rattle.week.specs.Week.{chip_x2, line_at, courses_p, course_x2a, course_x2b}
use Rattle.week.proofs.DelayLine.{line_from_lem}
use Rattle.channels_at.proofs.Words.{sum_tells}

module _ (x : ℕ → ℕ) (from line word k : ℕ) (line_in : line < 2 ^ 37) (word_in : word < 2 ^ 64) (k-in : k ≤ 64) (tells : Tells word k (λ j. x (from + j))) where
  pub line_is : (j : ℕ) → j ≤ k → line_from 37 x from j line ≡ (line * 2 ^ j + word / 2 ^ (64 - j)) % 2 ^ 37
  unfolding line_from
  line_is zero h =
      sym (mod-eq_of_lt line_in) ∙ ap (λ (v : ℕ). v % 2 ^ 37) (sym (ap₂ (λ (a b : ℕ). a + b) (mul-one line) none ∙ add-zero line))
    where
      none : word / 2 ^ 64 ≡ 0
      none = ap (λ (v : ℕ). v / 2 ^ 64) (sym (zero-add word ∙ refl)) ∙ ap (λ (v : ℕ). (v + word) / 2 ^ 64) (sym (zero-mul (2 ^ 64))) ∙ high 0 64 word_in
  line_is (suc j) h =
      let n = 63 - j in
      let after : 64 - suc j ≡ 63 - j = omega arith in
      let before : 64 - j ≡ n + 1 = omega (arith, h, k-in) in
      let half : word / 2 ^ (64 - j) ≡ word / 2 ^ n / 2 = ap (λ (m : ℕ). word / 2 ^ m) before ∙ sym (shr-shr word n 1) in
      let bit : x (from + j) ≡ word / 2 ^ n % 2 = sym (tells j (omega (arith, h))) in
      ap₂ (λ (a b : ℕ). (a * 2 + b) % 2 ^ 37) (line_is j (omega (arith, h)) ∙ ap (λ (v : ℕ). (line * 2 ^ j + v) % 2 ^ 37) half) bit
      ∙ doubled (line * 2 ^ j) (word / 2 ^ n)
      ∙ ap₂ (λ (p m : ℕ). (p + word / 2 ^ m) % 2 ^ 37) (mul_assoc line (2 ^ j) 2 ∙ ap (λ (p : ℕ). line * p) (sym (pow-suc 2 j))) (sym after)
    where
      doubled : (a w : ℕ) → ((a + w / 2) % 2 ^ 37 * 2 + w % 2) % 2 ^ 37 ≡ (a * 2 + w) % 2 ^ 37
      doubled a w = omega arith

-- ---- the loop

abbrev x2 : ℕ → ℕ
x2 = chip_x2 (signal_p 1) courses_p

abbrev ones : ℕ
ones = 2 ^ 37 - 1

pub record Filled (place at line : ℕ) : Type 0 where
  pub from_first : place - 37 ≤ at
  pub to_place : at ≤ place
  pub line_in : line < 2 ^ 37
  pub so_far : line ≡ line_from 37 x2 (place - 37) (at - (place - 37)) ones

pub filled_first : (place : ℕ) → Filled place (place - 37) ones
filled_first place =
    record {
      from_first = le_refl (place - 37);
      to_place = omega arith;
      line_in = lit< tt;
      so_far = start ∙ ap (λ (n : ℕ). line_from 37 x2 (place - 37) n ones) (sym (sub_self (place - 37)));
    }
  where
    start : ones ≡ line_from 37 x2 (place - 37) 0 ones
    start = unfold line_from in refl

module _ (place at line : ℕ) (f : Filled place at line) where
  pub filled_more : (wa wb n next : ℕ) → bit_xor wa wb < 2 ^ 64 → n ≤ 64 → at + n ≤ place
      → Tells wa n (λ j. stage 12 (generator_at x2a course_x2a (at + j)).register)
      → Tells wb n (λ j. stage 12 (generator_at x2b course_x2b (at + j)).register)
      → next ≡ (line * 2 ^ n + bit_xor wa wb / 2 ^ (64 - n)) % 2 ^ 37 → Filled place (at + n) next
  filled_more wa wb n next small few room ta tb e =
      let from = place - 37 in
      let there : from + (at - from) ≡ at = omega (arith, f.from_first) in
      let sum : (at - from) + n ≡ at + n - from = omega (arith, f.from_first) in
      let so_far : next ≡ line_from 37 x2 from (at + n - from) ones
      = e
      ∙ sym (line_is x2 at line (bit_xor wa wb) n f.line_in small few (sum_tells n wa wb _ _ ta tb) n (le_refl n))
      ∙ ap₂ (λ (s l : ℕ). line_from 37 x2 s n l) (sym there) f.so_far
      ∙ sym (line-add 37 x2 from (at - from) n ones)
      ∙ ap (λ (m : ℕ). line_from 37 x2 from m ones) sum
      in
      record {
        from_first = omega (arith, f.from_first);
        to_place = room;
        line_in = rw so_far (line-lt 37 x2 from (at + n - from) ones (lit< tt));
        so_far = so_far;
      }

  pub filled_all : place ≤ at → line ≡ line_at (signal_p 1) courses_p place
  unfolding line_at
  filled_all h =
      let all : at ≡ place = omega (arith, h, f.to_place) in
      f.so_far ∙ ap (λ (w : ℕ). line_from 37 x2 (place - 37) (w - (place - 37)) ones) all ∙ line_from_lem 37 x2 place ones (lit< tt)
