-- Fields and numbers: what the functions over a slice need of the definitions.
--     split_at, split_nowhere     what stands before the first space and after it
--     sides_whole                 how long these are
--     part_from, past_is          the part of a slice from a place on
--     digit_range                 which bytes digits are
--     number_is                   a number has at most 13 of them
--     ten_small                   how large it is
--     shorn_end, shorn_at         a number without its leading zeros
-- Assumes nothing.
use Prim.Native.Nat.{ℕ, zero, suc, ◌+◌, ◌-◌, ◌^◌, ◌≤◌, ◌<◌}
use mathlib.Core.Bool.{Bool, true, false, cond, ◌&&◌, and-eq-true_iff}
use mathlib.Core.List.{List, [], ◌∷◌}
use mathlib.Core.Path.{◌≡◌, refl, sym, ap, ◌∙◌}
use native.Mathlib.Nat.{pow-le-pow_right}
use native.Mathlib.Omega.{arith}
use lib.Dec.{leb, eqb}
use lib.ListN.{length, take, drop, get_or, drop_of_length-le, length-drop}
use lib.Seq.{take_all}
use Rattle.std.proofs.lemmas.List.{get_or-take}
use borrow.Author.Tests.{leb-true, eq-eqb, ne_eqb, le-leb, lt-leb}
use Rattle.fields.specs.Fields.{before, after, digit, digits, is_number, shorn}

-- ---- a space

-- the first space is byte i
pub split_at : (l : List ℕ) (i : ℕ) → i < length l → get_or l i 0 ≡ 32 → ((k : ℕ) → k < i → get_or l k 0 ≡ 32 → ⊥)
    → (take i l ≡ before l) × (drop (suc i) l ≡ after l)
split_at [] i h e n = absurd (omega (arith, h))
split_at (b ∷ bs) zero h e n = rw (eq-eqb b 32 e) (refl, refl)
split_at (b ∷ bs) (suc i) h e n =
    let more = split_at bs i (omega (arith, h)) e (λ k below. n (suc k) (omega (arith, below))) in
    rw (ne_eqb b 32 (n 0 (omega arith))) (ap (λ (x : List ℕ). b ∷ x) more.0, more.1)

-- there is no space
pub split_nowhere : (l : List ℕ) → ((k : ℕ) → k < length l → get_or l k 0 ≡ 32 → ⊥) → (l ≡ before l) × (◌≡◌ {A = List ℕ} [] (after l))
split_nowhere [] n = (refl, refl)
split_nowhere (b ∷ bs) n =
    let more = split_nowhere bs (λ k below. n (suc k) (omega (arith, below))) in
    rw (ne_eqb b 32 (n 0 (omega arith))) (ap (λ (x : List ℕ). b ∷ x) more.0, more.1)

-- a space and what stands on both sides of it are the whole
pub sides_whole : (l : List ℕ) → length l ≤ length (before l) + 1 + length (after l)
sides_whole [] = omega arith
sides_whole (b ∷ bs) = by (eqb b 32) (sides_whole bs)
  where
    by : (t : Bool) → length bs ≤ length (before bs) + 1 + length (after bs)
        → suc (length bs) ≤ length (cond t [] (b ∷ before bs)) + 1 + length (cond t bs (after bs))
    by true h = omega arith
    by false h = omega (arith, h)

-- the part of a slice from a place on
pub part_from : (l : List ℕ) (n : ℕ) → take (length l - n) (drop n l) ≡ drop n l
part_from l n = take_all (length l - n) (drop n l) (rw (length-drop n l) (omega arith))

-- the same where that is what stands after the first space
pub past_is : (l : List ℕ) (n : ℕ) → drop n l ≡ after l → take (length l - n) (drop n l) ≡ after l
past_is l n e = part_from l n ∙ e

-- ---- digits

pub digit_range : (b : ℕ) → digit b ≡ true → (48 ≤ b) × (b ≤ 57)
digit_range b e =
    let both = (and-eq-true_iff (leb 48 b) (leb b 57)).0 e in
    (leb-true 48 b both.0, leb-true b 57 both.1)

pub number_is : (l : List ℕ) → is_number l ≡ true → (length l ≤ 13) × (digits l ≡ true)
number_is l e =
    let all = (and-eq-true_iff (leb 1 (length l) && leb (length l) 13) (digits l)).0 e in
    (leb-true (length l) 13 ((and-eq-true_iff (leb 1 (length l)) (leb (length l) 13)).0 all.0).1, all.1)

-- 13 digits fit 64 bits
pub ten_small : (i : ℕ) → i < 13 → 10 ^ i ≤ 1000000000000
ten_small i h = pow-le-pow_right {n = 10} (omega arith) {i = i} {j = 12} (omega arith)

-- ---- leading zeros

-- the last byte stays
pub shorn_end : (l : List ℕ) → length l ≤ 1 → shorn l ≡ l
shorn_end [] h = refl
shorn_end (b ∷ bs) h = rw (lt-leb 1 (length bs) (omega arith)) (by (eqb b 48))
  where
    by : (t : Bool) → cond (t && false) (shorn bs) (b ∷ bs) ≡ b ∷ bs
    by true = refl
    by false = refl

-- i zeros stand before another byte or before the last one
shorn_upto : (l : List ℕ) (i : ℕ) → i ≤ length l - 1 → ((k : ℕ) → k < i → get_or l k 0 ≡ 48) → (i < length l - 1 → get_or l i 0 ≡ 48 → ⊥)
    → drop i l ≡ shorn l
shorn_upto [] i h e n = drop_of_length-le [] {i = i} (omega arith)
shorn_upto (b ∷ []) zero h e n = sym (shorn_end (b ∷ []) (omega arith))
shorn_upto (b ∷ []) (suc i) h e n = absurd (omega (arith, h))
shorn_upto (b ∷ c ∷ bs) zero h e n = rw (ne_eqb b 48 (n (omega arith))) refl
shorn_upto (b ∷ c ∷ bs) (suc i) h e n =
    rw (eq-eqb b 48 (e 0 (omega arith)), le-leb 1 (length (c ∷ bs)) (omega arith))
    (shorn_upto (c ∷ bs) i (omega (arith, h)) (λ k below. e (suc k) (omega (arith, below))) (λ below. n (omega (arith, below))))

-- the same of a part of a slice, where all bytes but the last were looked at
pub shorn_at : (l : List ℕ) (i : ℕ) → i ≤ length l - 1 → ((k : ℕ) → k < i → get_or (take (length l - 1) l) k 0 ≡ 48)
    → (i < length l - 1 → get_or (take (length l - 1) l) i 0 ≡ 48 → ⊥) → take (length l - i) (drop i l) ≡ shorn l
shorn_at l i h e n =
    let front : (k : ℕ) → k < length l - 1 → get_or (take (length l - 1) l) k 0 ≡ get_or l k 0 = λ k below. get_or-take (length l - 1) l k 0 below in
    part_from l i ∙ shorn_upto l i h (λ k below. sym (front k (omega arith)) ∙ e k below) (λ below is. n below (front i below ∙ is))
