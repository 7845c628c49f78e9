-- Numbers in a text, one byte further on: what the loops need, which at byte i have `drop i` of the text before them.
--     nothing_there, no_first, first_digit      a number's first digit
--     on_mark, on_more                          the bytes behind it
--     none_left, too_short, no_zero, no_digit   where an argument's leading zeros end
--     one_passed                                a leading zero
-- Assumes nothing.
use Prim.Native.Nat.{ℕ, zero, suc, ◌+◌, ◌-◌, ◌≤◌, ◌<◌}
use mathlib.Core.Bool.{Bool, true, false, cond, ◌&&◌, true≢false}
use mathlib.Core.List.{List, [], ◌∷◌}
use mathlib.Core.Path.{◌≡◌, refl, sym, ap, ◌∙◌}
use native.Mathlib.Numerals.{add-one}
use native.Mathlib.Omega.{arith}
use lib.Dec.{eqb}
use lib.ListN.{length, take, drop, get_or}
use lib.Seq.{drop-cons, take_all}
use borrow.Author.Tests.{eq-eqb, ne_eqb}
use Rattle.std.specs.Prelude.{Some, None}
use Rattle.fields.specs.Fields.{digit}
use Rattle.numbers.specs.Numbers.{◌>>=◌, with_digit, digits_on, read_number, unpadded}

-- ---- a number's first digit

module _ (most mark : ℕ) where
  pub nothing_there : (l : List ℕ) → length l < 1 → read_number most mark l ≡ None
  unfolding read_number
  nothing_there [] h = refl
  nothing_there (b ∷ bs) h = absurd (omega (arith, h))

  pub no_first : (l : List ℕ) → digit (get_or l 0 0) ≡ false → read_number most mark l ≡ None
  unfolding read_number
  no_first [] other = refl
  no_first (b ∷ bs) other = rw other refl

  pub first_digit : (l : List ℕ) → digit (get_or l 0 0) ≡ true → read_number most mark l ≡ digits_on most mark (get_or l 0 0 - 48) (take (length l - 1) (drop 1 l))
  unfolding read_number
  first_digit [] is = absurd (true≢false (sym is))
  first_digit (b ∷ bs) is = rw is (ap (digits_on most mark (b - 48)) (sym (take_all (length (b ∷ bs) - 1) bs (omega arith))))

-- ---- the bytes behind it

module _ (most mark : ℕ) (l : List ℕ) (i : ℕ) (h : i < length l) where
  on_byte : (n : ℕ) → digits_on most mark n (drop i l) ≡ digits_on most mark n (get_or l i 0 ∷ drop (i + 1) l)
  on_byte n = rw (add-one i) (ap (digits_on most mark n) (drop-cons l i 0 h))

  pub on_mark : (n : ℕ) → get_or l i 0 ≡ mark → digits_on most mark n (drop i l) ≡ Some (n, drop (i + 1) l)
  on_mark n e = on_byte n ∙ rw (eq-eqb (get_or l i 0) mark e) refl

  pub on_more : (n : ℕ) → (get_or l i 0 ≡ mark → ⊥)
      → digits_on most mark n (drop i l) ≡ (with_digit most n (get_or l i 0) >>= (λ longer. digits_on most mark longer (drop (i + 1) l)))
  on_more n other = on_byte n ∙ rw (ne_eqb (get_or l i 0) mark other) refl

-- ---- leading zeros of an argument, of which i of 19 are passed

pub none_left : (i : ℕ) (l : List ℕ) → 19 ≤ i → unpadded (19 - i) l ≡ l
none_left i l h =
    let none : 19 - i ≡ 0 = omega (arith, h) in
    ap (λ (k : ℕ). unpadded k l) none

pub too_short : (k : ℕ) (l : List ℕ) → length l < 2 → unpadded k l ≡ l
too_short zero l h = refl
too_short (suc k) [] h = refl
too_short (suc k) (b ∷ []) h = refl
too_short (suc k) (b ∷ c ∷ bs) h = absurd (omega (arith, h))

pub no_zero : (k : ℕ) (l : List ℕ) → (get_or l 0 0 ≡ 48 → ⊥) → unpadded k l ≡ l
no_zero zero l other = refl
no_zero (suc k) [] other = refl
no_zero (suc k) (b ∷ []) other = refl
no_zero (suc k) (b ∷ c ∷ bs) other = rw (ne_eqb b 48 other) refl

pub no_digit : (k : ℕ) (l : List ℕ) → digit (get_or l 1 0) ≡ false → unpadded k l ≡ l
no_digit zero l other = refl
no_digit (suc k) [] other = refl
no_digit (suc k) (b ∷ []) other = refl
no_digit (suc k) (b ∷ c ∷ bs) other = by (eqb b 48)
  where
    by : (t : Bool) → cond (t && digit c) (unpadded k (c ∷ bs)) (b ∷ c ∷ bs) ≡ b ∷ c ∷ bs
    by true = rw other refl
    by false = refl

pub one_passed : (i : ℕ) (l : List ℕ) → i < 19 → 2 ≤ length l → get_or l 0 0 ≡ 48 → digit (get_or l 1 0) ≡ true
    → unpadded (19 - i) l ≡ unpadded (19 - (i + 1)) (take (length l - 1) (drop 1 l))
one_passed i l h long zero_there digit_there =
    let one : 19 - i ≡ suc (19 - (i + 1)) = omega (arith, h) in
    ap (λ (k : ℕ). unpadded k l) one ∙ by l long zero_there digit_there
  where
    by : (l : List ℕ) → 2 ≤ length l → get_or l 0 0 ≡ 48 → digit (get_or l 1 0) ≡ true
        → unpadded (suc (19 - (i + 1))) l ≡ unpadded (19 - (i + 1)) (take (length l - 1) (drop 1 l))
    by [] long first next = absurd (omega (arith, long))
    by (b ∷ []) long first next = absurd (omega (arith, long))
    by (b ∷ c ∷ bs) long first next =
        rw (eq-eqb b 48 first, next) (ap (unpadded (19 - (i + 1))) (sym (take_all (length (b ∷ c ∷ bs) - 1) (c ∷ bs) (omega arith))))
