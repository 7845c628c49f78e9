-- What a function gives at each of the places from one on, round a week, as a row.
--     placed   the list by places is the row
-- Assumes nothing.
use Prim.Native.Nat.{ℕ, zero, suc, ◌+◌, ◌%◌}
use mathlib.Core.Path.{◌≡◌, refl, sym, ap, ap₂, ◌∙◌}
use mathlib.Core.List.{List, ◌∷◌, map}
use native.Mathlib.Omega.{arith}
use Rattle.machine.specs.Signals.{places_from}
use Rattle.columns.specs.Rows.{row}
use Rattle.columns.proofs.Rows.{row_then, row_same}

-- the first number of a row, and the others behind it
row_front : (x : ℕ → ℕ) (n : ℕ) → row x (suc n) ≡ x 0 ∷ row (λ j. x (suc j)) n
unfolding row
row_front x n =
    let whole : suc n ≡ 1 + n = omega arith in
    ap (row x) whole ∙ row_then x 1 n ∙ ap (λ (l : List ℕ). x 0 ∷ l) (row_same (λ j. x (1 + j)) (λ j. x (suc j)) n (λ j h. let e : 1 + j ≡ suc j = omega arith in ap x e))

pub placed : (f : ℕ → ℕ) (w n p : ℕ) → map f (places_from w p n) ≡ row (λ j. f ((p + j) % w)) n
unfolding places_from row
placed f w zero p = refl
placed f w (suc n) p =
    let here : p ≡ p + 0 = omega arith in
    ap₂ (λ (b : ℕ) (bs : List ℕ). b ∷ bs) (ap (λ q. f (q % w)) here)
    (placed f w n (suc p) ∙ row_same (λ j. f ((suc p + j) % w)) (λ j. f ((p + suc j) % w)) n (λ j h. let e : suc p + j ≡ p + suc j = omega arith in ap (λ q. f (q % w)) e))
    ∙ sym (row_front (λ j. f ((p + j) % w)) n)
