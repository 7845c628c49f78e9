-- A list by its numbers, for the contracts of inner functions.
-- Assumes nothing.
use Rattle.std.specs.Prelude.{ℕ, zero, suc, List, [], ◌∷◌, ◌++◌}

-- x 0, x 1 .. x (n - 1)
unfoldable pub row : (ℕ → ℕ) → ℕ → List ℕ
row x zero = []
row x (suc n) = row x n ++ (x n ∷ [])
