-- A dialog by lines: where it stands, byte by byte, and what is said.
-- Assumes nothing.
use Rattle.std.specs.Prelude.{ℕ, ◌≡◌, ◌≤◌, List, [], ◌∷◌, ◌++◌, length, take}
use Rattle.texts.specs.Saying.{rest_of, replies_of}

-- What a dialog does with bytes. S is where it stands.
pub record Course (S : Type 0) : Type 0 where
  -- what is kept of it, where less than all tells what is still to be said
  pub kept : S → S
  -- one byte more, and what is said to it
  pub next : S → ℕ → S
  pub said : S → ℕ → List ℕ
  -- what the input's end has it say
  pub last : S → List ℕ

-- where it stands after any number of bytes more, as far as that is kept
abbrev pub stands : {S : Type 0} → Course S → S → List ℕ → S
stands c s bytes = c.kept (rest_of c.next s bytes)

-- what is said to them
abbrev pub says : {S : Type 0} → Course S → S → List ℕ → List ℕ
says c s bytes = replies_of c.next c.said s bytes

-- what is still to be said to an input, its end included
abbrev pub saying : {S : Type 0} → Course S → S → List ℕ → List ℕ
saying c s input = says c s input ++ c.last (rest_of c.next s input)

-- What is said to an input that comes in chunks. `feed` says what is said to a chunk, from where the dialog stands before it, and leaves it where that leads, as
-- far as that is kept; `finish` says what the input's end brings.
abbrev pub fed_with : {S : Type 0} → Course S → S → List (List ℕ) → List ℕ
fed_with c s [] = c.last s
fed_with c s (chunk ∷ chunks) = says c s chunk ++ fed_with c (stands c s chunk) chunks

-- What is kept of where a dialog stands says as much as all.
pub record Keeps {S : Type 0} (c : Course S) : Type 0 where
  pub next : (s : S) (b : ℕ) → c.kept (c.next (c.kept s) b) ≡ c.kept (c.next s b)
  pub said : (s : S) (b : ℕ) → c.said (c.kept s) b ≡ c.said s b
  pub last : (s : S) → c.last (c.kept s) ≡ c.last s
  pub twice : (s : S) → c.kept (c.kept s) ≡ c.kept s

-- What a dialog owes that keeps so many bytes of a line: a short one is kept whole, and any byte but a newline, 10, is one more of it and says nothing.
pub record Laws {M S : Type 0} (most : ℕ) (state : List ℕ → M → S) (c : Course S) : Type 0 where
  pub keeps : Keeps c
  pub short : (line : List ℕ) (memory : M) → length line ≤ most → c.kept (state line memory) ≡ state line memory
  pub next : (line : List ℕ) (memory : M) (b : ℕ) → (b ≡ 10 → ⊥) → c.kept (c.next (state line memory) b) ≡ state (take most (line ++ b ∷ [])) memory
  pub said : (line : List ℕ) (memory : M) (b : ℕ) → (b ≡ 10 → ⊥) → c.said (state line memory) b ≡ []
  pub last : (memory : M) → c.last (state [] memory) ≡ []
