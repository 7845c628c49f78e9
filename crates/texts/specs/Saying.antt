-- A program that takes bytes one after the other, from state to state, and says something to each: where it stands after any number of bytes, and all that it
-- has said. S is what it has to remember.
-- Assumes nothing.
use Rattle.std.specs.Prelude.{ℕ, ◌≡◌, List, [], ◌∷◌, ◌++◌}

abbrev pub rest_of : {S : Type 0} → (S → ℕ → S) → S → List ℕ → S
rest_of next s [] = s
rest_of next s (b ∷ bs) = rest_of next (next s b) bs

abbrev pub replies_of : {S : Type 0} → (S → ℕ → S) → (S → ℕ → List ℕ) → S → List ℕ → List ℕ
replies_of next said s [] = []
replies_of next said s (b ∷ bs) = said s b ++ replies_of next said (next s b) bs

-- an input that comes in chunks
abbrev pub whole : List (List ℕ) → List ℕ
whole [] = []
whole (chunk ∷ chunks) = chunk ++ whole chunks

-- bytes without a newline, which is 10
abbrev pub Plain : List ℕ → Type 0
Plain [] = Unit {0}
Plain (b ∷ bs) = (b ≡ 10 → ⊥) × Plain bs
