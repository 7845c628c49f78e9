-- Numbers as words, written and read.
-- Assumes nothing.
use Prim.Native.Nat.{ℕ, zero, suc, ◌+◌, ◌-◌, ◌*◌, ◌/◌, ◌%◌, ◌^◌, ◌≤◌, ◌<◌}
use mathlib.Core.Bool.{Bool, true, false, cond, ◌&&◌, and-eq-true_iff, true≢false}
use mathlib.Core.List.{List, [], ◌∷◌, ◌++◌, append_assoc}
use mathlib.Core.Path.{◌≡◌, refl, sym, ap, subst, ◌∙◌}
use native.Mathlib.Nat.{pow-suc}
use native.Mathlib.Omega.{arith}
use lib.Dec.{ltb, leb, eqb}
use lib.ListN.{length, length-append, drop}
use borrow.Author.Tests.{ltb-true, ltb-false, leb-true, eqb-true, eq-eqb, ne_eqb, le-leb, lt-ltb, le-ltb}
use Rattle.std.specs.Prelude.{Option, Some, None, IfSome, option_and_then}
use Rattle.std.specs.Borrow.{Bor}
use Rattle.std.specs.Prelude.{decimal}
use Rattle.std.proofs.Math.Seq.{drop-append_seam}
use Rattle.std.proofs.lemmas.Fmt.{AppendsLastDigit, decimal_from_appends, length-decimal-le}
use Rattle.fields.specs.Fields.{digit}
use Rattle.fields.proofs.Bytes.{digit_range}
use Rattle.numbers.specs.Numbers.{Read, of_read, most32, most64, digits_in, number_word, with_digit, digits_on, read_number, IsReadAs}

-- ---- digits

pub is_digit : (d : ℕ) → d < 10 → digit (48 + d) ≡ true
is_digit d h = rw (le-leb 48 (48 + d) (omega arith), le-leb (48 + d) 57 (omega arith))

tenth : (n k : ℕ) → n < 10 ^ suc k → n / 10 < 10 ^ k
tenth n k h = omega (arith, h, pow-suc 10 k)

-- a digit more than is needed is not written
one_digit_more : (k n : ℕ) → n < 10 ^ suc k → digits_in (suc (suc k)) n ≡ digits_in (suc k) n
one_digit_more zero n h = rw (lt-ltb n 10 (omega arith)) refl
one_digit_more (suc k) n h =
    ap (λ (l : List ℕ). cond (ltb n 10) ((48 + n) ∷ []) (l ++ ((48 + n % 10) ∷ []))) (one_digit_more k (n / 10) (tenth n (suc k) h))

-- a digit behind the others
pub digit_behind : (m d : ℕ) → 0 < m → d < 10 → m * 10 + d < 10 ^ 20 → digits_in 20 (m * 10 + d) ≡ digits_in 20 m ++ ((48 + d) ∷ [])
digit_behind m d some small h =
    let n = m * 10 + d in
    let front : n / 10 ≡ m = omega arith in
    let last : n % 10 ≡ d = omega arith in
    rw (le-ltb n 10 (omega arith), front, last, one_digit_more 18 m (omega arith))

-- the digits that std writes
decimal_is : (n : ℕ) → n < 2 ^ 64 → decimal n ≡ digits_in 20 n
decimal_is n h = sym (decimal_from_appends digits_in steps 20 n h (length-decimal-le 20 n (omega arith) (omega arith) h))
  where
    steps : AppendsLastDigit digits_in
    steps = record {
      one = λ k n small. rw (lt-ltb n 10 small) refl;
      more = λ k n large. rw (le-ltb n 10 large) refl;
    }

pub digits_short : (k n : ℕ) → length (digits_in k n) ≤ k
digits_short zero n = omega arith
digits_short (suc k) n = by (ltb n 10) (digits_short k (n / 10))
  where
    by : (t : Bool) → length (digits_in k (n / 10)) ≤ k → length (cond t ((48 + n) ∷ []) (digits_in k (n / 10) ++ ((48 + n % 10) ∷ []))) ≤ suc k
    by true h = omega arith
    by false h = rw (length-append (digits_in k (n / 10)) ((48 + n % 10) ∷ [])) (omega (arith, h))

-- ---- a number's word

-- behind what stands there
pub word_put : (mark n : ℕ) (before : List ℕ) → n < 2 ^ 64 → (before ++ decimal n) ++ (mark ∷ []) ≡ before ++ number_word mark n
unfolding number_word
word_put mark n before h = append_assoc before (decimal n) (mark ∷ []) ∙ ap (λ (x : List ℕ). before ++ (x ++ (mark ∷ []))) (decimal_is n h)

pub number_short : (mark n : ℕ) → length (number_word mark n) ≤ 21
unfolding number_word
number_short mark n = rw (length-append (digits_in 20 n) (mark ∷ [])) (omega (arith, digits_short 20 n))

-- ---- one byte read

-- a digit that may follow
may_follow : (most n b : ℕ) → digit b ≡ true → 0 < n → n * 10 + (b - 48) ≤ most → with_digit most n b ≡ Some (n * 10 + (b - 48))
may_follow most n b is some few = rw (is, lt-ltb 0 n some, le-leb (n * 10 + (b - 48)) most few) refl

-- ---- what was written is read

module _ (most mark : ℕ) (no_digit : digit mark ≡ false) where
  no_mark : (b : ℕ) → digit b ≡ true → eqb b mark ≡ false
  no_mark b is = ne_eqb b mark (λ e. absurd (true≢false (sym is ∙ ap digit e ∙ no_digit)))

  written_on : (n d : ℕ) (tail : List ℕ) → 0 < n → d < 10 → n * 10 + d ≤ most → digits_on most mark n ((48 + d) ∷ tail) ≡ digits_on most mark (n * 10 + d) tail
  written_on n d tail some small few =
      let b = 48 + d in
      let is : digit b ≡ true = is_digit d small in
      let value : b - 48 ≡ d = omega arith in
      rw (no_mark b is, may_follow most n b is some (omega arith)) (ap (λ (x : ℕ). digits_on most mark (n * 10 + x) tail) value)

  first_on : (n : ℕ) (tail : List ℕ) → n < 10 → read_number most mark ((48 + n) ∷ tail) ≡ digits_on most mark n tail
  unfolding read_number
  first_on n tail small =
      let value : 48 + n - 48 ≡ n = omega arith in
      ap (λ (t : Bool). cond t (digits_on most mark (48 + n - 48) tail) None) (is_digit n small) ∙ ap (λ (x : ℕ). digits_on most mark x tail) value

  -- the digits of a number, and what is read behind them
  number_on : (k n : ℕ) (tail : List ℕ) → n < 10 ^ suc k → n ≤ most → read_number most mark (digits_in (suc k) n ++ tail) ≡ digits_on most mark n tail
  number_on zero n tail h few = rw (lt-ltb n 10 (omega arith)) (first_on n tail (omega arith))
  number_on (suc k) n tail h few = by (ltb n 10) refl (number_on k (n / 10) ((48 + n % 10) ∷ tail) (tenth n (suc k) h) (omega arith))
    where
      by : (t : Bool) → ltb n 10 ≡ t
          → read_number most mark (digits_in (suc k) (n / 10) ++ ((48 + n % 10) ∷ tail)) ≡ digits_on most mark (n / 10) ((48 + n % 10) ∷ tail)
          → read_number most mark (cond t ((48 + n) ∷ []) (digits_in (suc k) (n / 10) ++ ((48 + n % 10) ∷ [])) ++ tail) ≡ digits_on most mark n tail
      by true e before = first_on n tail (ltb-true n 10 e)
      by false e before =
          let large : 10 ≤ n = ltb-false n 10 e in
          let whole : n / 10 * 10 + n % 10 ≡ n = omega arith in
          ap (read_number most mark) (append_assoc (digits_in (suc k) (n / 10)) ((48 + n % 10) ∷ []) tail)
          ∙ before
          ∙ written_on (n / 10) (n % 10) tail (omega (arith, large)) (omega arith) (omega (arith, few))
          ∙ ap (λ (x : ℕ). digits_on most mark x tail) whole

  pub number_there : (n : ℕ) (rest : List ℕ) → n < 10 ^ 20 → n ≤ most → read_number most mark (number_word mark n ++ rest) ≡ Some (n, rest)
  unfolding number_word
  number_there n rest h few =
      ap (read_number most mark) (append_assoc (digits_in 20 n) (mark ∷ []) rest) ∙ number_on 19 n (mark ∷ rest) h few ∙ rw (eq-eqb mark mark refl) refl

-- ---- what is read was written

-- the fields hold no number of more than 20 digits
pub small32 : most32 < 10 ^ 20
small32 = omega arith

pub small64 : most64 < 10 ^ 20
small64 = omega arith

-- what may follow is a digit, behind a number that is not 0, and few enough
follows : (most n b : ℕ) → digit b && ltb 0 n && leb (n * 10 + (b - 48)) most ≡ true
    → (48 ≤ b) × ((b ≤ 57) × ((0 < n) × (n * 10 + (b - 48) ≤ most)))
follows most n b e =
    let all = (and-eq-true_iff (digit b && ltb 0 n) (leb (n * 10 + (b - 48)) most)).0 e in
    let two = (and-eq-true_iff (digit b) (ltb 0 n)).0 all.0 in
    let range = digit_range b two.0 in
    (range.0, (range.1, (ltb-true 0 n two.1, leb-true (n * 10 + (b - 48)) most all.1)))

module _ (most mark : ℕ) (small : most < 10 ^ 20) where
  -- these bytes are the word of what was read, and what stands behind it
  abbrev IsWordOf : List ℕ → Read ℕ → Type 0
  IsWordOf text read = IfSome read (λ p. text ≡ number_word mark p.0 ++ p.1)

  -- the digits read, with those before them, are a number's word up to the mark
  on_back : (n : ℕ) (l : List ℕ) → IsWordOf (digits_in 20 n ++ l) (digits_on most mark n l)
  unfolding number_word
  on_back n [] = tt
  on_back n (b ∷ bs) = by (eqb b mark) (digit b && ltb 0 n && leb longer most) refl refl (on_back longer bs)
    where
      longer : ℕ
      longer = n * 10 + (b - 48)

      by : (t u : Bool) → eqb b mark ≡ t → digit b && ltb 0 n && leb longer most ≡ u → IsWordOf (digits_in 20 longer ++ bs) (digits_on most mark longer bs)
          → IsWordOf (digits_in 20 n ++ (b ∷ bs)) (cond t (Some (n, bs)) (option_and_then (λ m. digits_on most mark m bs) (cond u (Some longer) None)))
      by true u is-mark guard later =
          ap (λ (x : ℕ). digits_in 20 n ++ (x ∷ bs)) (eqb-true b mark is-mark) ∙ sym (append_assoc (digits_in 20 n) (mark ∷ []) bs)
      by false true other guard later =
          let f = follows most n b guard in
          let again : 48 + (b - 48) ≡ b = omega (arith, f.0) in
          subst (λ (text : List ℕ). IsWordOf text (digits_on most mark longer bs))
          (ap (λ (l : List ℕ). l ++ bs) (digit_behind n (b - 48) f.1.1.0 (omega (arith, f.1.0)) (omega (arith, f.1.1.1)))
          ∙ ap (λ (x : ℕ). (digits_in 20 n ++ (x ∷ [])) ++ bs) again
          ∙ append_assoc (digits_in 20 n) (b ∷ []) bs)
          later
      by false false other guard later = tt

  pub number_back : (l : List ℕ) (n : ℕ) (rest : List ℕ) → read_number most mark l ≡ Some (n, rest) → l ≡ number_word mark n ++ rest
  unfolding read_number
  number_back l n rest e = subst (IsWordOf l) e (by l)
    where
      by : (l : List ℕ) → IsWordOf l (read_number most mark l)
      by [] = tt
      by (b ∷ bs) = first (digit b) refl
        where
          first : (t : Bool) → digit b ≡ t → IsWordOf (b ∷ bs) (cond t (digits_on most mark (b - 48) bs) None)
          first true is =
              let range = digit_range b is in
              let again : 48 + (b - 48) ≡ b = omega (arith, range.0) in
              let one : digits_in 20 (b - 48) ≡ b ∷ [] = rw (lt-ltb (b - 48) 10 (omega (arith, range.1)), again) refl in
              subst (λ (text : List ℕ). IsWordOf text (digits_on most mark (b - 48) bs)) (ap (λ (l : List ℕ). l ++ bs) one) (on_back (b - 48) bs)
          first false is = tt

-- ---- as the code has them

-- a number put behind what stands there is read back
pub put_read : (mark n : ℕ) (before : List ℕ) → n < 2 ^ 64 → digit mark ≡ false → IsReadAs mark n (drop (length before) ((before ++ decimal n) ++ (mark ∷ [])))
put_read mark n before h no_digit most few rest =
    ap (λ (l : List ℕ). read_number most mark (drop (length before) l ++ rest)) (word_put mark n before h)
    ∙ ap (λ (l : List ℕ). read_number most mark (l ++ rest)) (drop-append_seam before (number_word mark n))
    ∙ number_there most mark no_digit n rest (omega (arith, h)) few

-- a number read stands at the front of the text
pub read_back : (most mark : ℕ) (text : List ℕ) (read : Option (ℕ × Bor (List ℕ))) → most < 2 ^ 64 → of_read read ≡ read_number most mark text
    → IfSome read (λ p. text ≡ number_word mark p.0 ++ p.1.now)
read_back most mark text None h e = tt
read_back most mark text (Some p) h e = number_back most mark (omega (arith, h)) text p.0 p.1.now (sym e)
