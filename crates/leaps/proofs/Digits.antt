-- Rows by digits of the register.
--     law       the numbers at a register's digits are the row applied
--     row_is    a row of a flat table, by its place in the list
--     row_kept  row k of the table by digits is row k of the table, by digits
-- Assumes nothing.
use mathlib.Core.Path.{◌≡◌, refl, sym, ap, ap₂, ◌∙◌}
use mathlib.Core.List.{List, [], ◌∷◌, ◌++◌}
use Prim.Native.Nat.{ℕ, zero, suc, ◌+◌, ◌*◌, ◌/◌, ◌%◌, ◌^◌, ◌≤◌, ◌<◌}
use native.Mathlib.Nat.{mul_comm, mul-le-mul_right, div-one, zero-add, add-zero, add-suc, suc-add, zero-mul, suc-mul, not-suc-le-zero, le_of_suc-le-suc}
use native.Mathlib.Numerals.{add-one}
use native.Mathlib.Omega.{arith}
use lib.ListN.{length, get_or, get_or-append, take, drop, length-take, length-drop}
use lib.Seq.{drop-drop, take_at, drop_at}
use lib.Pow.{shr-shr, field, mod-mod-pow}
use lib.Bits.{bit_xor, xor_zero_l}
use Rattle.std.proofs.Common.{length-append}
use Rattle.registers.specs.Row.{combine}
use Rattle.registers.proofs.Xor.{xor_assoc}
use Rattle.leaps.specs.Leaps.{row_at}
use Rattle.leaps.specs.Digits.{of_values, row_by_digits, rows_by_digits, at_digits}
use Rattle.leaps.specs.Laws.{LawOfDigits}

-- ---- the law

-- a row is its m lowest numbers, at the register's m lowest stages, and the numbers above
split_row : (m : ℕ) (row : List ℕ) (r : ℕ) → combine row r ≡ bit_xor (combine (take m row) (r % 2 ^ m)) (combine (drop m row) (r / 2 ^ m))
unfolding combine
split_row zero row r = ap (combine row) (sym (div-one r)) ∙ sym (xor_zero_l (combine row (r / 1)))
split_row (suc m) [] r = refl
split_row (suc m) (c ∷ cs) r =
    let lowest : r % 2 ^ suc m % 2 ≡ r % 2 = ap (λ (k : ℕ). r % 2 ^ k % 2) (sym (add-one m)) ∙ mod-mod-pow r m 1 in
    let next : r % 2 ^ suc m / 2 ≡ r / 2 % 2 ^ m = ap (λ (k : ℕ). r % 2 ^ k / 2) (sym (add-one m)) ∙ field r m 1 in
    let one : 1 + m ≡ suc m = omega arith in
    let above : r / 2 / 2 ^ m ≡ r / 2 ^ suc m = shr-shr r 1 m ∙ ap (λ (k : ℕ). r / 2 ^ k) one in
    ap (bit_xor (r % 2 * c)) (split_row m cs (r / 2))
    ∙ sym (xor_assoc (r % 2 * c) (combine (take m cs) (r / 2 % 2 ^ m)) (combine (drop m cs) (r / 2 / 2 ^ m)))
    ∙ (λ j. bit_xor (bit_xor (sym lowest j * c) (combine (take m cs) (sym next j))) (combine (drop m cs) (above j)))

length_values : (four : List ℕ) (v n : ℕ) → length (of_values four v n) ≡ n
unfolding of_values
length_values four v zero = refl
length_values four v (suc n) = ap suc (length_values four (suc v) n)

value_at : (four : List ℕ) (v n j : ℕ) → j < n → get_or (of_values four v n) j 0 ≡ combine four (v + j)
unfolding of_values
value_at four v zero j h = absurd (not-suc-le-zero h)
value_at four v (suc n) zero h = ap (combine four) (sym (add-zero v))
value_at four v (suc n) (suc j) h = value_at four (suc v) n j (le_of_suc-le-suc h) ∙ ap (combine four) (suc-add v j ∙ sym (add-suc v j))

pub law : LawOfDigits
unfolding row_by_digits at_digits combine
law zero [] r h = refl
law zero (c ∷ cs) r h = absurd (omega arith)
law (suc g) row r h =
    let first : List ℕ = of_values (take 4 row) 0 16 in
    let rest : List ℕ = row_by_digits g (drop 4 row) in
    let long : length first ≡ 16 = length_values (take 4 row) 0 16 in
    let inside : r % 16 < length first = omega arith in
    let few : length (drop 4 row) ≤ 4 * g = omega (arith, length-drop 4 row) in
    let here : get_or (first ++ rest) (r % 16) 0 ≡ combine (take 4 row) (r % 16) =
    get_or-append first rest 0 (r % 16) inside ∙ value_at (take 4 row) 0 16 (r % 16) (omega arith) ∙ ap (combine (take 4 row)) (zero-add (r % 16)) in
    ap₂ bit_xor here (ap (λ (d : List ℕ). at_digits g d (r / 16)) (drop_at first rest 16 long) ∙ law g (drop 4 row) (r / 16) few)
    ∙ sym (split_row 4 row r)

-- ---- rows of a table

pub row_is : (s : ℕ) (t : List ℕ) (k : ℕ) → row_at s t k ≡ take s (drop (k * s) t)
unfolding row_at
row_is s t zero = ap (λ (n : ℕ). take s (drop n t)) (sym (zero-mul s))
row_is s t (suc k) =
    row_is s (drop s t) k ∙ ap (take s) (drop-drop (k * s) s t)
    ∙ ap (λ (n : ℕ). take s (drop n t)) (let e : s + k * s ≡ suc k * s = omega (arith, suc-mul k s) in e)

pub row_short : (s : ℕ) (t : List ℕ) (k : ℕ) → length (row_at s t k) ≤ s
row_short s t k = rw (row_is s t k) (omega (arith, length-take s (drop (k * s) t)))

length_row : (g : ℕ) (row : List ℕ) → length (row_by_digits g row) ≡ 16 * g
unfolding row_by_digits
length_row zero row = refl
length_row (suc g) row =
    length-append (of_values (take 4 row) 0 16) (row_by_digits g (drop 4 row))
    ∙ (let a = length_values (take 4 row) 0 16 in let b = length_row g (drop 4 row) in omega (arith, a, b))

length_rows : (g n s : ℕ) (t : List ℕ) → length (rows_by_digits g n s t) ≡ n * (16 * g)
unfolding rows_by_digits
length_rows g zero s t = sym (zero-mul (16 * g))
length_rows g (suc n) s t =
    length-append (row_by_digits g (take s t)) (rows_by_digits g n s (drop s t))
    ∙ (let a = length_row g (take s t) in let b = length_rows g n s (drop s t) in omega (arith, a, b, suc-mul n (16 * g)))

row_kept : (g n s : ℕ) (t : List ℕ) (k : ℕ) → k < n
    → take (16 * g) (drop (k * (16 * g)) (rows_by_digits g n s t)) ≡ row_by_digits g (row_at s t k)
unfolding rows_by_digits row_at
row_kept g zero s t k h = absurd (not-suc-le-zero h)
row_kept g (suc n) s t zero h =
    let row : List ℕ = row_by_digits g (take s t) in
    let rest : List ℕ = rows_by_digits g n s (drop s t) in
    ap (λ (m : ℕ). take (16 * g) (drop m (row ++ rest))) (zero-mul (16 * g)) ∙ take_at row rest (16 * g) (length_row g (take s t))
row_kept g (suc n) s t (suc k) h =
    let row : List ℕ = row_by_digits g (take s t) in
    let rest : List ℕ = rows_by_digits g n s (drop s t) in
    let on : suc k * (16 * g) ≡ 16 * g + k * (16 * g) = omega (arith, suc-mul k (16 * g)) in
    ap (λ (m : ℕ). take (16 * g) (drop m (row ++ rest))) on
    ∙ ap (take (16 * g)) (sym (drop-drop (k * (16 * g)) (16 * g) (row ++ rest)) ∙ ap (drop (k * (16 * g))) (drop_at row rest (16 * g) (length_row g (take s t))))
    ∙ row_kept g n s (drop s t) k (le_of_suc-le-suc h)

-- ---- a row applied by its digits

module _ (g n s : ℕ) (t d : List ℕ) (k : ℕ) (is : d ≡ rows_by_digits g n s t) (h : k < n) where
  pub fits_kept : k * (g * 16) + g * 16 ≤ length d
  fits_kept =
      let all : length d ≡ n * (16 * g) = ap length is ∙ length_rows g n s t in
      let more : suc k * (g * 16) ≤ n * (g * 16) = mul-le-mul_right (g * 16) h in
      omega (arith, all, more, suc-mul k (g * 16), mul_comm g 16)

  pub kept_is : s ≤ 4 * g → (r w : ℕ) → w ≡ g * 16 → at_digits (length (take w (drop (k * (g * 16)) d)) / 16) (take w (drop (k * (g * 16)) d)) r ≡ combine (row_at s t k) r
  kept_is few r w e =
      let row : List ℕ = row_by_digits g (row_at s t k) in
      let row_of : take w (drop (k * (g * 16)) d) ≡ row =
      ap₂ (λ (v : ℕ) (l : List ℕ). take v (drop (k * (g * 16)) l)) e is
      ∙ ap (λ (v : ℕ). take v (drop (k * v) (rows_by_digits g n s t))) (mul_comm g 16) ∙ row_kept g n s t k h in
      let digits : length row / 16 ≡ g = omega (arith, length_row g (row_at s t k)) in
      ap (λ (l : List ℕ). at_digits (length l / 16) l r) row_of
      ∙ ap (λ (m : ℕ). at_digits m row r) digits
      ∙ law g (row_at s t k) r (omega (arith, row_short s t k))
