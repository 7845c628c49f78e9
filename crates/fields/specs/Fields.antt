-- The fields of a line of text, as bytes: what stands before and after a space, and which number digits stand for. Document 01, "Line program". Bytes are
-- those of ASCII: 32 is a space, 48 to 57 are the digits.
-- Assumes nothing.
use Rattle.std.specs.Prelude.{ℕ, ◌+◌, ◌-◌, ◌*◌, Bool, true, cond, ◌&&◌, List, [], ◌∷◌, leb, eqb, length}

-- the bytes before the first space; all, where there is none
abbrev pub before : List ℕ → List ℕ
before [] = []
before (b ∷ bs) = cond (eqb b 32) [] (b ∷ before bs)

-- the bytes after the first space; none, where there is none
abbrev pub after : List ℕ → List ℕ
after [] = []
after (b ∷ bs) = cond (eqb b 32) bs (after bs)

-- 0 to 9
abbrev pub digit : ℕ → Bool
digit b = leb 48 b && leb b 57

abbrev pub digits : List ℕ → Bool
digits [] = true
digits (b ∷ bs) = digit b && digits bs

-- "each 1 to 13 digits"
abbrev pub is_number : List ℕ → Bool
is_number l = leb 1 (length l) && leb (length l) 13 && digits l

-- the number that digits stand for, in base ten, behind those that stand for n
abbrev pub value_from : ℕ → List ℕ → ℕ
value_from n [] = n
value_from n (b ∷ bs) = value_from (n * 10 + (b - 48)) bs

abbrev pub value : List ℕ → ℕ
value l = value_from 0 l

-- "leading zeros dropped"; of zeros alone the last one stays
abbrev pub shorn : List ℕ → List ℕ
shorn [] = []
shorn (b ∷ bs) = cond (eqb b 48 && leb 1 (length bs)) (shorn bs) (b ∷ bs)
