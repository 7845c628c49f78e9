-- Signed numbers as differences of numbers: that a signed number is p - q is an equation of numbers, and sums, orders and tests of signed numbers
-- become those of numbers.
-- Assumes nothing.
use Prim.Native.Nat.{ℕ, zero, suc, ◌+◌, ◌-◌, ◌*◌, ◌≤◌, ◌<◌}
use mathlib.Core.Bool.{Bool, true, false}
use mathlib.Core.Path.{◌≡◌, refl, sym, ap, ap₂, subst, ◌∙◌}
use native.Mathlib.Omega.{arith}
use lib.Dec.{T, ltb, leb, le→leb}
use lib.IntN.{ℤ, pos, negsuc, neg_ℤ, sub_ℕ, ◌+ℤ◌, ◌-ℤ◌, ◌*ℤ◌}
use lib.Signed.{lt_z, le_z, ◌≤ℤ◌}
use mir.Syntax.{w64}
use mir.Val.{SFits}
use borrow.Author.Tests.{ltb-true, ltb-false, leb-true, leb-false, lt-ltb, le-ltb, le-leb, lt-leb}
use Rattle.machine.proofs.Tests.{chosen}

-- how far a signed number is above 0, and how far below
abbrev pub up : ℤ → ℕ
up (pos n) = n
up (negsuc n) = 0

abbrev pub down : ℤ → ℕ
down (pos n) = 0
down (negsuc n) = suc n

-- z is p - q
abbrev pub Is : ℤ → ℕ → ℕ → Type 0
Is z p q = up z + q ≡ down z + p

-- ---- sums, differences, products

sub_is : (a b : ℕ) → Is (sub_ℕ a b) a b
sub_is a b = chosen (λ (z : ℤ). Is z a b) (ltb a b) (λ t. below (ltb-true a b t)) (λ t. past (ltb-false a b t))
  where
    below : a < b → 0 + b ≡ suc (b - suc a) + a
    below h = omega arith

    past : b ≤ a → a - b + b ≡ 0 + a
    past h = omega arith

sum_is : (x y : ℤ) → Is (x +ℤ y) (up x + up y) (down x + down y)
sum_is (pos a) (pos b) = omega arith
sum_is (pos a) (negsuc b) = omega (arith, sub_is a (suc b))
sum_is (negsuc a) (pos b) = omega (arith, sub_is b (suc a))
sum_is (negsuc a) (negsuc b) = omega arith

pub neg_up : (x : ℤ) → up (neg_ℤ x) ≡ down x
neg_up (pos zero) = refl
neg_up (pos (suc n)) = refl
neg_up (negsuc n) = refl

pub neg_down : (x : ℤ) → down (neg_ℤ x) ≡ up x
neg_down (pos zero) = refl
neg_down (pos (suc n)) = refl
neg_down (negsuc n) = refl

pub neg_is : (z : ℤ) (p q : ℕ) → Is z p q → Is (neg_ℤ z) q p
neg_is z p q e = omega (arith, e, neg_up z, neg_down z)

pub plus : (z : ℤ) (p q n : ℕ) → Is z p q → Is (z +ℤ pos n) (p + n) q
plus z p q n e = omega (arith, e, sum_is z (pos n))

pub minus : (z : ℤ) (p q n : ℕ) → Is z p q → Is (z -ℤ pos n) p (q + n)
minus z p q n e = omega (arith, e, sum_is z (neg_ℤ (pos n)), neg_up (pos n), neg_down (pos n))

pub difference_is : (a b : ℕ) → Is (pos b -ℤ pos a) b a
difference_is a b = omega (arith, minus (pos b) b 0 a (omega arith))

-- z, and k weeks of w
pub weeks_on : (z k : ℤ) (w p q : ℕ) → Is z p q → Is (z +ℤ k *ℤ pos w) (p + up k * w) (q + down k * w)
weeks_on z (pos n) w p q e = omega (arith, e, sum_is z (pos (n * w)))
weeks_on z (negsuc n) w p q e =
    omega (arith, e, sum_is z (neg_ℤ (pos (suc n * w))), neg_up (pos (suc n * w)), neg_down (pos (suc n * w)))

-- ---- orders

le_test : (x y : ℤ) → le_z x y ≡ leb (up x + down y) (up y + down x)
le_test (pos a) (pos b) = ap₂ leb (plain a) (plain b)
  where
    plain : (n : ℕ) → n ≡ n + 0
    plain n = omega arith
le_test (pos a) (negsuc b) = sym (lt-leb (a + suc b) (0 + 0) (omega arith))
le_test (negsuc a) (pos b) = sym (le-leb (0 + 0) (b + suc a) (omega arith))
le_test (negsuc a) (negsuc b) = turned (leb b a) refl
  where
    turned : (t : Bool) → leb b a ≡ t → t ≡ leb (0 + suc b) (0 + suc a)
    turned true e = sym (le-leb (0 + suc b) (0 + suc a) (omega (arith, leb-true b a e)))
    turned false e = sym (lt-leb (0 + suc b) (0 + suc a) (omega (arith, leb-false b a e)))

lt_test : (x y : ℤ) → lt_z x y ≡ ltb (up x + down y) (up y + down x)
lt_test (pos a) (pos b) = ap₂ ltb (plain a) (plain b)
  where
    plain : (n : ℕ) → n ≡ n + 0
    plain n = omega arith
lt_test (pos a) (negsuc b) = sym (le-ltb (a + suc b) (0 + 0) (omega arith))
lt_test (negsuc a) (pos b) = sym (lt-ltb (0 + 0) (b + suc a) (omega arith))
lt_test (negsuc a) (negsuc b) = turned (ltb b a) refl
  where
    turned : (t : Bool) → ltb b a ≡ t → t ≡ ltb (0 + suc b) (0 + suc a)
    turned true e = sym (lt-ltb (0 + suc b) (0 + suc a) (omega (arith, ltb-true b a e)))
    turned false e = sym (le-ltb (0 + suc b) (0 + suc a) (omega (arith, ltb-false b a e)))

same : (x y : ℤ) → up x + down y ≡ up y + down x → x ≡ y
same (pos a) (pos b) e = let f : a ≡ b = omega (arith, e) in ap pos f
same (pos a) (negsuc b) e = absurd (omega (arith, e))
same (negsuc a) (pos b) e = absurd (omega (arith, e))
same (negsuc a) (negsuc b) e = let f : a ≡ b = omega (arith, e) in ap negsuc f

-- p - q against r - s
module _ (x y : ℤ) (p q r s : ℕ) (ex : Is x p q) (ey : Is y r s) where
  pub le_passed : le_z x y ≡ true → p + s ≤ r + q
  le_passed t = omega (arith, ex, ey, leb-true (up x + down y) (up y + down x) (sym (le_test x y) ∙ t))

  pub le_failed : le_z x y ≡ false → r + q < p + s
  le_failed t = omega (arith, ex, ey, leb-false (up x + down y) (up y + down x) (sym (le_test x y) ∙ t))

  pub lt_passed : lt_z x y ≡ true → p + s < r + q
  lt_passed t = omega (arith, ex, ey, ltb-true (up x + down y) (up y + down x) (sym (lt_test x y) ∙ t))

  pub lt_failed : lt_z x y ≡ false → r + q ≤ p + s
  lt_failed t = omega (arith, ex, ey, ltb-false (up x + down y) (up y + down x) (sym (lt_test x y) ∙ t))

  pub is_le : p + s ≤ r + q → x ≤ℤ y
  is_le h =
      let numbers : up x + down y ≤ up y + down x = omega (arith, ex, ey, h) in
      record { le = subst T (sym (le_test x y)) (le→leb (up x + down y) (up y + down x) numbers) }

  pub le_is : x ≤ℤ y → p + s ≤ r + q
  le_is h = le_passed (told (le_z x y) h.le)
    where
      told : (t : Bool) → T t → t ≡ true
      told true u = refl
      told false u = absurd u

  pub are_same : p + s ≡ r + q → x ≡ y
  are_same e =
      let numbers : up x + down y ≡ up y + down x = omega (arith, ex, ey, e) in
      same x y numbers

-- ---- what fits 64 bits

pub fits : (z : ℤ) (p q : ℕ) → Is z p q → p < 9223372036854775808 → q < 9223372036854775808 → SFits w64 z
fits (pos n) p q e h k = record { sfits = omega (arith, e, h) }
fits (negsuc n) p q e h k = record { sfits = omega (arith, e, k) }

pub difference_fits : (a b : ℕ) → a < 9223372036854775808 → b < 9223372036854775808 → SFits w64 (pos b -ℤ pos a)
difference_fits a b h k = fits (pos b -ℤ pos a) b a (difference_is a b) k h
