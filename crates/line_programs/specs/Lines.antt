-- An input, cut at its newlines. Bytes are those of ASCII: 10 is a newline.
-- Assumes nothing.
use Rattle.std.specs.Prelude.{ℕ, ◌≡◌, cond, List, [], ◌∷◌, ◌++◌, eqb}
use Rattle.texts.specs.Saying.{Plain}

-- the lines that end in a newline, in order, each without it, where a line has begun with some bytes
abbrev pub ended_from : List ℕ → List ℕ → List (List ℕ)
ended_from line [] = []
ended_from line (b ∷ bs) = cond (eqb b 10) (line ∷ ended_from [] bs) (ended_from (line ++ (b ∷ [])) bs)

-- what follows the last newline, where a line has begun with some bytes
abbrev pub unended_from : List ℕ → List ℕ → List ℕ
unended_from line [] = line
unended_from line (b ∷ bs) = cond (eqb b 10) (unended_from [] bs) (unended_from (line ++ (b ∷ [])) bs)

-- the lines of an input that end in a newline, and what follows the last one
abbrev pub ended : List ℕ → List (List ℕ)
ended input = ended_from [] input

abbrev pub unended : List ℕ → List ℕ
unended input = unended_from [] input

-- ---- that these are its lines

-- lines, each with its newline, and what follows the last one
abbrev pub joined : List (List ℕ) → List ℕ → List ℕ
joined [] last = last
joined (line ∷ lines) last = line ++ (10 ∷ joined lines last)

-- no line has a newline in it
abbrev pub AllPlain : List (List ℕ) → Type 0
AllPlain [] = Unit {0}
AllPlain (line ∷ lines) = Plain line × AllPlain lines

-- Cut at its newlines and joined again, an input is the input; joined and cut again, lines without a newline in them are the lines.
pub record LinesAndBack : Type 0 where
  pub joined_again : (input : List ℕ) → joined (ended input) (unended input) ≡ input
  pub plain : (input : List ℕ) → AllPlain (ended input) × Plain (unended input)
  pub cut_again : (lines : List (List ℕ)) (last : List ℕ) → AllPlain lines → Plain last → (ended (joined lines last) ≡ lines) × (unended (joined lines last) ≡ last)
