-- The rule of a table of leaps, a test that is made once over the whole table, and what it says of each entry.
-- f is the shift of a register of s stages; t is the table, n rows of s numbers one after the other.
-- Assumes nothing.
use Rattle.std.specs.Prelude.{ℕ, zero, suc, ◌+◌, ◌*◌, ◌^◌, ◌<◌, ◌≡◌, Bool, true, false, ◌&&◌, eqb}
use Rattle.std.specs.Prelude.{List, [], ◌∷◌, map, get_or, take, drop}
use Rattle.registers.specs.Times.{times}
use Rattle.registers.specs.Row.{combine, columns}

-- two lists of numbers are the same
abbrev pub same : List ℕ → List ℕ → Bool
same [] [] = true
same [] (y ∷ ys) = false
same (x ∷ xs) [] = false
same (x ∷ xs) (y ∷ ys) = eqb x y && same xs ys

-- each of the n rows after the first is the row above applied twice
abbrev pub doubles : ℕ → ℕ → List ℕ → Bool
doubles zero s t = true
doubles (suc n) s t = same (take s (drop s t)) (map (combine (take s t)) (take s t)) && doubles n s (drop s t)

-- the first row is one shift of each stage alone, and each next row is the row above applied twice
abbrev pub rule : (ℕ → ℕ) → ℕ → ℕ → List ℕ → Bool
rule f zero s t = true
rule f (suc n) s t = same (take s t) (columns f 0 s) && doubles n s t

-- Number k of row j, both from 0 on, is what 2 ^ j shifts make of the register that has a 1 in stage k + 1 alone, the number 2 ^ k.
abbrev pub EachEntry : (ℕ → ℕ) → ℕ → ℕ → List ℕ → Type 0
EachEntry f n s t = (j k : ℕ) → j < n → k < s → get_or t (j * s + k) 0 ≡ times f (2 ^ j) (2 ^ k)
