-- Numbers as words of text, and how such words are read. Bytes are those of ASCII: 48 to 57 are the digits. Behind each word stands a mark, which is no digit.
-- Assumes nothing.
use Rattle.std.specs.Prelude.{ℕ, zero, suc, ◌≡◌, ◌≤◌, ◌+◌, ◌-◌, ◌*◌, ◌/◌, ◌%◌, ◌&&◌, List, [], ◌∷◌, ◌++◌, Option, Some, None, option_map, option_and_then, ◌==◌, nat_lt, nat_le, if◌then◌else◌}
use Rattle.std.specs.Borrow.{Bor}
use Rattle.fields.specs.Fields.{digit}

-- ---- written

-- a number in base ten, in at most so many digits, the first of them not 0 where there are more
abbrev pub digits_in : ℕ → ℕ → List ℕ
digits_in zero n = []
digits_in (suc k) n = if nat_lt n 10 then (48 + n) ∷ [] else (digits_in k (n / 10) ++ ((48 + n % 10) ∷ []))

-- every 64-bit number has at most 20 digits
unfoldable pub number_word : ℕ → ℕ → List ℕ
number_word mark n = digits_in 20 n ++ (mark ∷ [])

-- ---- the most that a field of 32 bits holds, and of 64

abbrev pub most32 : ℕ
most32 = 4294967295

abbrev pub most64 : ℕ
most64 = 18446744073709551615

-- ---- read

-- What is read at the front of a text, and what stands behind its mark; `None` where it does not stand there.
abbrev pub Read : Type 0 → Type 0
Read A = Option (A × List ℕ)

-- what a function of the code has read: the rest of the text is lent
abbrev pub of_read : {A : Type 0} → Option (A × Bor (List ℕ)) → Read A
of_read r = option_map (λ p. (p.0, p.1.now)) r

-- what is read next is read behind it, and where it does not stand there, nothing is
infixl 10 ◌>>=◌
abbrev pub ◌>>=◌ : {A B : Type 0} → Option A → (A → Option B) → Option B
r >>= next = option_and_then next r

-- A number with a digit more. None may follow a leading 0, and the number may not pass the most that its field holds.
abbrev pub with_digit : ℕ → ℕ → ℕ → Option ℕ
with_digit most n b = if digit b && nat_lt 0 n && nat_le (n * 10 + (b - 48)) most then Some (n * 10 + (b - 48)) else None

-- the digits behind those of n, up to the mark
abbrev pub digits_on : ℕ → ℕ → ℕ → List ℕ → Read ℕ
digits_on most mark n [] = None
digits_on most mark n (b ∷ bs) = if b == mark then Some (n, bs) else (with_digit most n b >>= (λ longer. digits_on most mark longer bs))

unfoldable pub read_number : ℕ → ℕ → List ℕ → Read ℕ
read_number most mark [] = None
read_number most mark (b ∷ bs) = if digit b then digits_on most mark (b - 48) bs else None

-- where it stands at the front of a text, a number's word is read as that number, and what stands behind it is left
abbrev pub IsReadAs : ℕ → ℕ → List ℕ → Type 0
IsReadAs mark n word = (most : ℕ) → n ≤ most → (rest : List ℕ) → read_number most mark (word ++ rest) ≡ Some (n, rest)

-- up to k zeros dropped, each before a digit
abbrev pub unpadded : ℕ → List ℕ → List ℕ
unpadded zero text = text
unpadded (suc k) [] = []
unpadded (suc k) (b ∷ []) = b ∷ []
unpadded (suc k) (b ∷ c ∷ bs) = if (b == 48) && digit c then unpadded k (c ∷ bs) else b ∷ c ∷ bs

-- A number of 64 bits as an argument of a command: it may have up to 19 leading zeros, which a channel's fields may not.
unfoldable pub read_argument : ℕ → List ℕ → Read ℕ
read_argument mark text = read_number most64 mark (unpadded 19 text)
