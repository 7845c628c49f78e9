-- A table of which the first rows alone are used.
--     covers_by  so many rows are as many as the phase asks for
--     by_first   the numbers behind them play no part
--     by_zeros   rows of no numbers make of a register what rows of one 0 each make of it
-- Assumes nothing.
use mathlib.Core.Path.{◌≡◌, refl, ap, ap₂, ◌∙◌}
use mathlib.Core.List.{List, [], ◌∷◌}
use Prim.Native.Nat.{ℕ, zero, suc, ◌+◌, ◌*◌, ◌/◌, ◌%◌, ◌≤◌, ◌<◌}
use native.Mathlib.Nat.{mul-zero, suc-mul, mul-div_cancel}
use native.Mathlib.Omega.{arith}
use lib.Count.{ones}
use lib.ListN.{length, length-take, replicate, length-replicate, take, drop}
use lib.Seq.{take-take}
use lib.Bits.{xor_zero_r}
use Rattle.std.proofs.lemmas.List.{drop-take}
use Rattle.registers.specs.Row.{combine}
use Rattle.leaps.specs.declared.rows.Counted.{Counted}
use Rattle.leaps.specs.Leaps.{leap_if, leaps, leap_by_table, rows_of, Covers, HasRows}

-- ---- of a longer table

rows_are : (n s : ℕ) (l : List ℕ) → 0 < s → length l ≡ n * s → rows_of s l ≡ n
rows_are n s l some long = ap (λ (m : ℕ). m / s) long ∙ mul-div_cancel n some

-- as many numbers as the rows have, from wherever in the table
pub covers_by : {n s : ℕ} {t l : List ℕ} {from : Counted ℕ} {phase : ℕ}
    → 0 < s → length l ≡ n * s → HasRows s n t from phase → Covers s l from phase
covers_by {n} {s} {t} {l} some long h =
    let rows : rows_of s l ≡ n = rows_are n s l some long in record {
      few = omega (arith, rows, h.few);
      phase_in = rw rows h.phase_in;
      count_in = h.count_in;
    }

leaps_first : (n s : ℕ) (t : List ℕ) (p r : ℕ) → leaps n s (take (n * s) t) p r ≡ leaps n s t p r
unfolding leaps
leaps_first zero s t p r = refl
leaps_first (suc n) s t p r =
    let long : suc n * s ≡ s + n * s = omega (arith, suc-mul n s) in
    let row : take s (take (suc n * s) t) ≡ take s t = take-take s (suc n * s) t (omega arith) in
    let rest : drop s (take (suc n * s) t) ≡ take (n * s) (drop s t) =
    ap (λ (m : ℕ). drop s (take m t)) long ∙ drop-take s (n * s) t in
    ap₂ (λ (l after : List ℕ). leaps n s after (p / 2) (leap_if (p % 2) l r)) row rest
    ∙ leaps_first n s (drop s t) (p / 2) (leap_if (p % 2) (take s t) r)

pub by_first : (n s : ℕ) (t : List ℕ) (p : ℕ) (from : Counted ℕ) → 0 < s → n * s ≤ length t
    → leap_by_table (rows_of s (take (n * s) t)) s (take (n * s) t) p from
    ≡ leap_by_table n s t p from
by_first n s t p from some long =
    let cut : List ℕ = take (n * s) t in
    let all : length cut ≡ n * s = omega (arith, length-take (n * s) t) in
    let same : leaps (rows_of s cut) s cut p from.value ≡ leaps n s t p from.value =
    ap (λ (m : ℕ). leaps m s cut p from.value) (rows_are n s cut some all)
    ∙ leaps_first n s t p from.value in
    ap (λ (r : ℕ). record { value = r; count = from.count + ones p }) same

-- ---- of no numbers

one_0 : (d r : ℕ) → leap_if d (0 ∷ []) r ≡ leap_if d [] r
unfolding leap_if combine
one_0 zero r = refl
one_0 (suc d) r = xor_zero_r (r % 2 * 0) ∙ mul-zero (r % 2)

leaps_0 : (n m : ℕ) (t : List ℕ) (p r : ℕ) → n ≤ m
    → leaps n 1 (take n (replicate m 0)) p r ≡ leaps n 0 t p r
unfolding leaps
leaps_0 zero m t p r few = refl
leaps_0 (suc n) zero t p r few = absurd (omega arith)
leaps_0 (suc n) (suc m) t p r few =
    ap (leaps n 1 (take n (replicate m 0)) (p / 2)) (one_0 (p % 2) r)
    ∙ leaps_0 n m t (p / 2) (leap_if (p % 2) [] r) (omega arith)

pub by_zeros : (n m : ℕ) (t : List ℕ) (p : ℕ) (from : Counted ℕ) → n ≤ m
    → leap_by_table (rows_of 1 (take n (replicate m 0))) 1 (take n (replicate m 0)) p from
    ≡ leap_by_table n 0 t p from
by_zeros n m t p from few =
    let all : List ℕ = replicate m 0 in
    let zeros : List ℕ = take n all in
    let long : length all ≡ m = length-replicate m 0 in
    let rows : rows_of 1 zeros ≡ n = omega (arith, length-take n all, long) in
    let same : leaps (rows_of 1 zeros) 1 zeros p from.value ≡ leaps n 0 t p from.value =
    ap (λ (k : ℕ). leaps k 1 zeros p from.value) rows ∙ leaps_0 n m t p from.value few in
    ap (λ (r : ℕ). record { value = r; count = from.count + ones p }) same
