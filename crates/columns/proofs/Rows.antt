-- Rows of numbers, and slices that are filled from the front.
--     row-length   a row of n has n numbers
--     row_none     a row of none
--     row_at       a number of it
--     row_same     two rows of the same numbers
--     row_then     a row, and more behind it
--     put_behind   what a write behind a list leaves, where the list stands before what the slice had
--     filled_none, filled_all      a slice none of which is filled, and one that is filled whole
--     digit_more                   one more number written
--     part_filled, rest_filled     a row more written to a part of the slice that was lent, and to the rest
-- Assumes nothing.
use Prim.Native.Nat.{ℕ, zero, suc, ◌+◌, ◌<◌, ◌≤◌}
use mathlib.Core.Path.{◌≡◌, refl, sym, ap, ap₂, ◌∙◌}
use mathlib.Core.List.{List, [], ◌∷◌, ◌++◌, append-nil, append_assoc}
use mathlib.Core.Logic.{⊎_elim}
use native.Mathlib.Nat.{add-zero, add-suc, eq-or-lt_of_le, le_of_suc-le-suc}
use native.Mathlib.Numerals.{add-one}
use native.Mathlib.Omega.{arith}
use lib.ListN.{length, get_or, take, drop, set, length-drop, length-append}
use lib.Seq.{get_or_at, get_or-take, length-take-le, take_all, take_at, drop_at, drop-drop}
use borrow.Rule.Slice.PartMut.{put_mid, same_len_mid}
use Rattle.std.proofs.lemmas.List.{take_more_set}
use Rattle.std.proofs.lemmas.Slice.{take-put_mid}
use Rattle.columns.specs.Rows.{row}

pub row-length : (x : ℕ → ℕ) (n : ℕ) → length (row x n) ≡ n
unfolding row
row-length x zero = refl
row-length x (suc n) = length-append (row x n) (x n ∷ []) ∙ ap (λ (k : ℕ). k + 1) (row-length x n) ∙ add-one n

-- a row of no numbers
pub row_none : (x : ℕ → ℕ) → row x 0 ≡ []
unfolding row
row_none x = refl

-- a number of a row
pub row_at : (x : ℕ → ℕ) (n i : ℕ) → i < n → get_or (row x n) i 0 ≡ x i
unfolding row
row_at x zero i h = absurd (omega (arith, h))
row_at x (suc n) i h =
    ⊎_elim
    (λ (e : i ≡ n). ap (λ (k : ℕ). get_or (row x n ++ (x n ∷ [])) k 0) e ∙ get_or_at (row x n) (x n) [] 0 n (row-length x n) ∙ ap x (sym e))
    (λ (l : i < n).
    sym (get_or-take n (row x n ++ (x n ∷ [])) i 0 l)
    ∙ ap (λ (front : List ℕ). get_or front i 0) (take_at (row x n) (x n ∷ []) n (row-length x n))
    ∙ row_at x n i l)
    (eq-or-lt_of_le (le_of_suc-le-suc h))

pub row_same : (x y : ℕ → ℕ) (n : ℕ) → ((j : ℕ) → j < n → x j ≡ y j) → row x n ≡ row y n
unfolding row
row_same x y zero e = refl
row_same x y (suc n) e = ap₂ (λ (l : List ℕ) (b : ℕ). l ++ (b ∷ [])) (row_same x y n (λ j h. e j (omega (arith, h)))) (e n (omega arith))

pub row_then : (x : ℕ → ℕ) (m n : ℕ) → row x (m + n) ≡ row x m ++ row (λ j. x (m + j)) n
unfolding row
row_then x m zero = ap (row x) (add-zero m) ∙ sym (append-nil (row x m))
row_then x m (suc n) =
    ap (row x) (add-suc m n)
    ∙ ap (λ (l : List ℕ). l ++ (x (m + n) ∷ [])) (row_then x m n)
    ∙ append_assoc (row x m) (row (λ j. x (m + j)) n) (x (m + n) ∷ [])

-- a list x before what is left of a slice, and y written behind x
pub put_behind : (x y old : List ℕ) (n k : ℕ) → length x ≡ n
    → take n (x ++ drop n old) ++ (y ++ drop (n + k) (x ++ drop n old)) ≡ (x ++ y) ++ drop (n + k) old
put_behind x y old n k long =
    let front : take n (x ++ drop n old) ≡ x = take_at x (drop n old) n long in
    let back : drop (n + k) (x ++ drop n old) ≡ drop (n + k) old
    = sym (drop-drop k n (x ++ drop n old)) ∙ ap (drop k) (drop_at x (drop n old) n long) ∙ drop-drop k n old
    in
    rw (front, back) (sym (append_assoc x y (drop (n + k) old)))

-- ---- a slice that is filled from the front, as far as n

pub filled_none : (x : ℕ → ℕ) (new : List ℕ) → take 0 new ≡ row x 0
filled_none x new = sym (row_none x)

pub filled_all : (x : ℕ → ℕ) (new : List ℕ) (n m : ℕ) → take n new ≡ row x n → length new ≤ n → n ≡ m → new ≡ row x m
filled_all x new n m filled h e = sym (take_all n new h) ∙ filled ∙ ap (row x) e

module _ (x : ℕ → ℕ) (new : List ℕ) (n : ℕ) where
  -- one more number written
  pub digit_more : (b : ℕ) → take n new ≡ row x n → n < length new → b ≡ x n → take (n + 1) (set new n b) ≡ row x (n + 1)
  unfolding row
  digit_more b filled h e = take_more_set new n b h ∙ ap₂ (λ (l : List ℕ) (v : ℕ). l ++ (v ∷ [])) filled e ∙ ap (row x) (sym (add-one n))

  -- a row more written to the next m numbers
  part_written : (y : ℕ → ℕ) (part : List ℕ) (k m to : ℕ) → take n new ≡ row x n → part ≡ row y k → ((j : ℕ) → j < k → y j ≡ x (n + j)) → n ≤ length new
      → to ≡ n + k → take to (put_mid n m new part) ≡ row x to
  part_written y part k m to filled is same le all =
      let long : length part ≡ k = ap length is ∙ row-length y k in
      take-put_mid n m new part to (omega (arith, all, long)) le
      ∙ ap₂ (λ (l r : List ℕ). l ++ r) filled (is ∙ row_same y (λ j. x (n + j)) k same)
      ∙ sym (row_then x n k)
      ∙ ap (row x) (sym all)

  -- the same where the part was lent, and filled as long as it is
  pub part_filled : (y : ℕ → ℕ) (part : List ℕ) (m to : ℕ) → take n new ≡ row x n → part ≡ row y (length (take m (drop n new)))
      → ((j : ℕ) → j < m → y j ≡ x (n + j)) → n + m ≤ length new → to ≡ n + m → take to (put_mid n m new part) ≡ row x to
  part_filled y part m to filled is same le all =
      let long : length (take m (drop n new)) ≡ m = length-take-le m (drop n new) (rw (length-drop n new) (omega (arith, le))) in
      part_written y part m m to filled (is ∙ ap (row y) long) same (omega (arith, le)) all

  -- the same where it is the rest
  pub rest_filled : (y : ℕ → ℕ) (part : List ℕ) (m count : ℕ) → take n new ≡ row x n → part ≡ row y (length (take m (drop n new)))
      → ((j : ℕ) → j < m → y j ≡ x (n + j)) → n + m ≡ length new → length new ≡ count → put_mid n m new part ≡ row x count
  rest_filled y part m count filled is same all long =
      let kept : length (put_mid n m new part) ≡ length new = same_len_mid n m new part (ap length is ∙ row-length y _) in
      filled_all x (put_mid n m new part) (n + m) count (part_filled y part m (n + m) filled is same (omega (arith, all)) refl) (omega (arith, kept, all))
      (omega (arith, all, long))
