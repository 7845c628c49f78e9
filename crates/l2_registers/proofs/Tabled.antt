-- What the table of moves has.
--     move_at   an entry is what so many shifts make of one hexadecimal digit of a register
-- Assumes nothing.
use Rattle.std.proofs.Common.{◌≡◌, ℕ, zero, suc, ◌+◌, ◌-◌, ◌*◌, ◌/◌, ◌%◌, ◌^◌, ◌<◌, ◌≤◌, List, ◌∷◌, map, length, get_or, take, arith, refl, sym, ap, ap₂, ◌∙◌}
use Rattle.std.proofs.lemmas.List.{get_or_append_left, get_or-append_right, get_or-take}
use native.Mathlib.Nat.{pow-suc}
use lib.Dec.{ltb, ltb→lt}
use lib.ListN.{length-append}
use lib.Pow.{pow-lt}
use Rattle.registers.specs.Times.{times}
use Rattle.registers.specs.Register.{shift_l2}
use Rattle.registers.specs.Row.{combine, columns}
use Rattle.registers.proofs.Below.{at}
use Rattle.registers.proofs.Linear.{times_linear, combine_is}
use Rattle.registers.proofs.Repeat.{times-add}
use Rattle.registers.proofs.Shifts.{l2, times_keeps}
use Rattle.l2_registers.specs.Moves.{digit_of, digits_by, steps, further, still, moves}

-- ---- rows

abbrev row_of : ℕ → List ℕ
row_of n = columns (times shift_l2 n) 0 27

shifts_row : (s m i n : ℕ) → i + n ≤ 27 → map (combine (row_of s)) (columns (times shift_l2 m) i n) ≡ columns (times shift_l2 (m + s)) i n
unfolding columns
shifts_row s m i zero h = refl
shifts_row s m i (suc n) h =
    ap₂ ◌∷◌
    (combine_is (times_linear l2.linear s) 27 (times shift_l2 m (2 ^ i)) (times_keeps l2 m (2 ^ i) (pow-lt {i = i} {j = 27} (omega arith)))
    ∙ sym (times-add shift_l2 m s (2 ^ i)))
    (shifts_row s m (suc i) n (omega arith))

further_is : (n s m : ℕ) → further n (row_of s) (row_of m) ≡ row_of (m + n * s)
unfolding further
further_is zero s m = let same : m ≡ m + zero * s = omega arith in ap row_of same
further_is (suc n) s m =
    let all : m + s + n * s ≡ m + suc n * s = omega arith in
    ap (further n (row_of s)) (shifts_row s m 0 27 (omega arith)) ∙ further_is n s (m + s) ∙ ap row_of all

still_is : still ≡ row_of 0
unfolding times
still_is = refl

one_is : columns shift_l2 0 27 ≡ row_of 1
unfolding times
one_is = refl

-- ---- the digits

digit_of-lt : (e : ℕ) → e < 104 → digit_of e < 2 ^ 27
digit_of-lt e h = ltb→lt (digit_of e) (2 ^ 27) (at 104 (λ e. ltb (digit_of e) (2 ^ 27)) tt e h)

digits_by-length : (row : List ℕ) (n i : ℕ) → length (digits_by row n i) ≡ n
unfolding digits_by
digits_by-length row zero i = refl
digits_by-length row (suc n) i = ap suc (digits_by-length row n (suc i))

digits_by_at : (row : List ℕ) (n i e : ℕ) → e < n → get_or (digits_by row n i) e 0 ≡ combine row (digit_of (i + e))
unfolding digits_by
digits_by_at row zero i e h = absurd (omega (arith, h))
digits_by_at row (suc n) i zero h = let same : i ≡ i + zero = omega arith in ap (λ k. combine row (digit_of k)) same
digits_by_at row (suc n) i (suc e) h =
    let on : suc i + e ≡ i + suc e = omega arith in
    digits_by_at row n (suc i) e (omega (arith, h)) ∙ ap (λ k. combine row (digit_of k)) on

digit_at : (m e : ℕ) → e < 104 → get_or (digits_by (row_of m) 104 0) e 0 ≡ times shift_l2 m (digit_of e)
digit_at m e h =
    let same : 0 + e ≡ e = omega arith in
    digits_by_at (row_of m) 104 0 e h ∙ ap (λ k. combine (row_of m) (digit_of k)) same
    ∙ combine_is (times_linear l2.linear m) 27 (digit_of e) (digit_of-lt e h)

-- ---- n rows

steps-length : (n : ℕ) (step row : List ℕ) → length (steps n step row) ≡ n * 104
unfolding steps
steps-length zero step row = refl
steps-length (suc n) step row =
    let rest = steps-length n step (map (combine step) row) in
    let one = digits_by-length row 104 0 in
    length-append (digits_by row 104 0) (steps n step (map (combine step) row)) ∙ omega (arith, rest, one)

step_at : (n s m d e : ℕ) → d < n → e < 104 → get_or (steps n (row_of s) (row_of m)) (d * 104 + e) 0 ≡ times shift_l2 (m + d * s) (digit_of e)
unfolding steps
step_at zero s m d e h l = absurd (omega (arith, h))
step_at (suc n) s m zero e h l =
    let one = digits_by-length (row_of m) 104 0 in
    let first : zero * 104 + e ≡ e = omega arith in
    let same : m ≡ m + zero * s = omega arith in
    ap (λ k. get_or (steps (suc n) (row_of s) (row_of m)) k 0) first
    ∙ get_or_append_left (digits_by (row_of m) 104 0) (steps n (row_of s) (map (combine (row_of s)) (row_of m))) 0 e (omega (arith, one, l))
    ∙ digit_at m e l
    ∙ ap (λ k. times shift_l2 k (digit_of e)) same
step_at (suc n) s m (suc d) e h l =
    let one = digits_by-length (row_of m) 104 0 in
    let less : suc d * 104 + e - 104 ≡ d * 104 + e = omega arith in
    let all : m + s + d * s ≡ m + suc d * s = omega arith in
    get_or-append_right (digits_by (row_of m) 104 0) (steps n (row_of s) (map (combine (row_of s)) (row_of m))) 104 (suc d * 104 + e) 0 one (omega arith)
    ∙ ap₂ (λ row k. get_or (steps n (row_of s) row) k 0) (shifts_row s m 0 27 (omega arith)) less
    ∙ step_at n s (m + s) d e (omega (arith, h)) l
    ∙ ap (λ k. times shift_l2 k (digit_of e)) all

-- ---- the table

moves_at : (n s i d e : ℕ) → i < n → d < 8 → e < 104
    → get_or (moves n (row_of s)) ((i * 8 + d) * 104 + e) 0 ≡ times shift_l2 (d * (s * 8 ^ i)) (digit_of e)
unfolding moves
moves_at zero s i d e h k l = absurd (omega (arith, h))
moves_at (suc n) s zero d e h k l =
    let long = steps-length 8 (row_of s) still in
    let first : (zero * 8 + d) * 104 + e ≡ d * 104 + e = omega arith in
    let same : 0 + d * s ≡ d * (s * 8 ^ zero) = omega arith in
    ap (λ j. get_or (moves (suc n) (row_of s)) j 0) first
    ∙ get_or_append_left (steps 8 (row_of s) still) (moves n (further 8 (row_of s) still)) 0 (d * 104 + e) (omega (arith, long, k, l))
    ∙ ap (λ row. get_or (steps 8 (row_of s) row) (d * 104 + e) 0) still_is
    ∙ step_at 8 s 0 d e k l
    ∙ ap (λ j. times shift_l2 j (digit_of e)) same
moves_at (suc n) s (suc i) d e h k l =
    let long = steps-length 8 (row_of s) still in
    let less : (suc i * 8 + d) * 104 + e - 832 ≡ (i * 8 + d) * 104 + e = omega arith in
    let all : d * ((0 + 8 * s) * 8 ^ i) ≡ d * (s * (8 ^ i * 8)) = omega arith in
    get_or-append_right (steps 8 (row_of s) still) (moves n (further 8 (row_of s) still)) 832 ((suc i * 8 + d) * 104 + e) 0 (long ∙ refl) (omega arith)
    ∙ ap₂ (λ row j. get_or (moves n row) j 0) (ap (further 8 (row_of s)) still_is ∙ further_is 8 s 0) less
    ∙ moves_at n (0 + 8 * s) i d e (omega (arith, h)) k l
    ∙ ap (λ j. times shift_l2 j (digit_of e)) (all ∙ ap (λ x. d * (s * x)) (sym (pow-suc 8 i)))

module _ (table : List ℕ) (is : table ≡ take 5408 (moves 7 (columns shift_l2 0 27))) where
  pub move_at : (m e : ℕ) → m < 52 → e < 104 → get_or table (m * 104 + e) 0 ≡ times shift_l2 (m % 8 * 8 ^ (m / 8)) (digit_of e)
  move_at m e h l =
      let i = m / 8 in
      let d = m % 8 in
      let whole : m * 104 + e ≡ (i * 8 + d) * 104 + e = omega arith in
      let once : d * (1 * 8 ^ i) ≡ d * 8 ^ i = omega arith in
      ap (λ t. get_or t (m * 104 + e) 0) is
      ∙ get_or-take 5408 (moves 7 (columns shift_l2 0 27)) (m * 104 + e) 0 (omega (arith, h, l))
      ∙ ap₂ (λ row j. get_or (moves 7 row) j 0) one_is whole
      ∙ moves_at 7 1 i d e (omega (arith, h)) (omega arith) l
      ∙ ap (λ j. times shift_l2 j (digit_of e)) once
