-- Chips as the digits of numbers, for any register.
--     top_lt        the digits of a register at the top of a word
--     given_behind  chips behind the digits of a number
--     given-lt      n chips are n digits
--     given_digit   a digit of 64 chips
--     word_is       the word that is read at q holds the 64 chips of the register of q
-- Assumes nothing.
use Prim.Native.Nat.{ℕ, zero, suc, ◌+◌, ◌-◌, ◌*◌, ◌/◌, ◌%◌, ◌^◌, ◌<◌, ◌≤◌}
use mathlib.Core.Path.{◌≡◌, refl, sym, ap, ap₂, ◌∙◌, subst}
use native.Mathlib.Nat.{zero-add, add-zero, mul-one, pow-suc, mod-lt, suc-add, lt_of_lt_of_le}
use native.Mathlib.Omega.{arith}
use lib.Bits.{bit_or, or_shifted}
use lib.Dec.{lit<}
use lib.ListN.{get_or}
use lib.Pow.{pow_mono, pow-add, high, low, shl_lt, shr_lt, shr-shr}
use Rattle.registers.specs.Times.{times}
use Rattle.registers.specs.Register.{stage}
use Rattle.registers.proofs.Repeat.{times-add}
use Rattle.registers.proofs.Shifts.{stage-lt}
use Rattle.sequences.specs.Sequences.{given, sequence, word_in, Tells}

-- the highest digits of a word, as many as a register has stages, are a number of 32 digits
pub top_lt : (word width : ℕ) → 1 ≤ width → width ≤ 32 → word < 2 ^ 64 → word / 2 ^ (64 - width) < 2 ^ 32
top_lt word width h l b =
    let all : width + (64 - width) ≡ 64 = omega (arith, h, l) in
    lt_of_lt_of_le (shr_lt width (64 - width) (subst (λ (k : ℕ). word < 2 ^ k) (sym all) b)) (pow_mono l)

module _ (f : ℕ → ℕ) (s : ℕ) where
  -- ---- chips behind a number

  pub given_behind : (n r a : ℕ) → given f s n r a ≡ a * 2 ^ n + given f s n r 0
  unfolding given
  given_behind zero r a = sym (add-zero (a * 1) ∙ mul-one a)
  given_behind (suc n) r a =
      let b = stage s r in
      given_behind n (f r) (a * 2 + b)
      ∙ carry a b (2 ^ n) (given f s n (f r) 0)
      ∙ ap₂ (λ (x y : ℕ). a * x + y) (sym (pow-suc 2 n)) (sym (given_behind n (f r) (0 * 2 + b)))
    where
      carry : (a b p g : ℕ) → (a * 2 + b) * p + g ≡ a * (p * 2) + ((0 * 2 + b) * p + g)
      carry a b p g = omega arith

  pub given-lt : (n r : ℕ) → given f s n r 0 < 2 ^ n
  unfolding given
  given-lt zero r = lit< tt
  given-lt (suc n) r =
      let b = stage s r in
      rw (given_behind n (f r) (0 * 2 + b)) (bound b (2 ^ n) (2 ^ suc n) (given f s n (f r) 0) (stage-lt s r) (given-lt n (f r)) (pow-suc 2 n))
    where
      bound : (b p q g : ℕ) → b < 2 → g < p → q ≡ p * 2 → (0 * 2 + b) * p + g < q
      bound zero p q g hb hg e = omega (arith, hg, e)
      bound (suc zero) p q g hb hg e = omega (arith, hg, e)
      bound (suc (suc b)) p q g hb hg e = absurd (omega (arith, hb))

  given_then : (m n r a : ℕ) → given f s (m + n) r a ≡ given f s n (times f m r) (given f s m r a)
  unfolding given times
  given_then zero n r a = ap (λ (k : ℕ). given f s k r a) (zero-add n)
  given_then (suc m) n r a = ap (λ (k : ℕ). given f s k r a) (suc-add m n) ∙ given_then m n (f r) (a * 2 + stage s r)

  -- m chips, and n behind them
  given_parts : (m n r : ℕ) → given f s (m + n) r 0 ≡ given f s m r 0 * 2 ^ n + given f s n (times f m r) 0
  given_parts m n r = given_then m n r 0 ∙ given_behind n (times f m r) (given f s m r 0)

  -- the first of them
  pub given_first : (m n r : ℕ) → given f s (m + n) r 0 / 2 ^ n ≡ given f s m r 0
  given_first m n r = ap (λ (x : ℕ). x / 2 ^ n) (given_parts m n r) ∙ high (given f s m r 0) n (given-lt n (times f m r))

  given_last : (m r : ℕ) → given f s (m + 1) r 0 % 2 ≡ stage s (times f m r)
  unfolding given
  given_last m r =
      ap (λ (x : ℕ). x % 2) (given_then m 1 r 0)
      ∙ odd (given f s m r 0) (stage s (times f m r)) (stage-lt s (times f m r))
    where
      odd : (a b : ℕ) → b < 2 → (a * 2 + b) % 2 ≡ b
      odd a b h = omega arith

  pub given_digit : (r : ℕ) → Tells (given f s 64 r 0) 64 (λ j. stage s (times f j r))
  given_digit r j h =
      let parts : 64 ≡ (j + 1) + (63 - j) = omega arith in
      let all = ap (λ (k : ℕ). given f s k r 0 / 2 ^ (63 - j)) parts ∙ given_first (j + 1) (63 - j) r in
      ap (λ (x : ℕ). x % 2) all ∙ given_last j r

  -- ---- the table

  entry : (n i r : ℕ) → i < n → get_or (sequence f s n r) i 0 ≡ given f s 64 (times f (64 * i) r) 0
  unfolding sequence times
  entry zero i r h = absurd (omega arith)
  entry (suc n) zero r h = refl
  entry (suc n) (suc i) r h =
      let on : 64 * suc i ≡ 64 + 64 * i = omega arith in
      entry n i (times f 64 r) (omega arith)
      ∙ ap (λ (x : ℕ). given f s 64 x 0) (sym (ap (λ (k : ℕ). times f k r) on ∙ times-add f 64 (64 * i) r))

  -- two words one behind the other, read e digits later
  joined : (e m r : ℕ) → e + m ≡ 64
      → bit_or (given f s 64 r 0 * 2 ^ e % 2 ^ 64) (given f s 64 (times f 64 r) 0 / 2 ^ m) ≡ given f s 64 (times f e r) 0
  joined e m r whole =
      let later = given f s m (times f e r) 0 in
      let next = given f s e (times f 64 r) 0 in
      let swapped : m + e ≡ 64 = omega (arith, whole) in
      let powers : 2 ^ 64 ≡ 2 ^ m * 2 ^ e = ap (λ (k : ℕ). 2 ^ k) (sym swapped) ∙ pow-add 2 m e in
      let first : given f s 64 r 0 * 2 ^ e % 2 ^ 64 ≡ later * 2 ^ e
      = ap (λ (k : ℕ). given f s k r 0 * 2 ^ e % 2 ^ 64) (sym whole)
      ∙ ap (λ (x : ℕ). x * 2 ^ e % 2 ^ 64) (given_parts e m r)
      ∙ ap (λ (x : ℕ). x % 2 ^ 64) (regroup (given f s e r 0) (2 ^ m) later (2 ^ e))
      ∙ ap (λ (x : ℕ). (given f s e r 0 * x + later * 2 ^ e) % 2 ^ 64) (sym powers)
      ∙ low (given f s e r 0) 64 (subst (λ (k : ℕ). later * 2 ^ e < 2 ^ k) swapped (shl_lt m e (given-lt m (times f e r))))
      in
      let second : given f s 64 (times f 64 r) 0 / 2 ^ m ≡ next
      = ap (λ (k : ℕ). given f s k (times f 64 r) 0 / 2 ^ m) (sym whole) ∙ given_first e m (times f 64 r)
      in
      let there : times f m (times f e r) ≡ times f 64 r = sym (times-add f e m r) ∙ ap (λ (k : ℕ). times f k r) whole in
      ap₂ bit_or first second
      ∙ or_shifted later e next (given-lt e (times f 64 r))
      ∙ ap (λ (x : ℕ). later * 2 ^ e + given f s e x 0) (sym there)
      ∙ sym (given_parts m e (times f e r))
      ∙ ap (λ (k : ℕ). given f s k (times f e r) 0) swapped
    where
      regroup : (g p y q : ℕ) → (g * p + y) * q ≡ g * (p * q) + y * q
      regroup g p y q = omega arith

  pub word_is : (n q r : ℕ) → q / 64 + 1 < n → word_in (sequence f s n r) q ≡ given f s 64 (times f q r) 0
  unfolding word_in
  word_is n q r h =
      let i = q / 64 in
      let e = q % 64 in
      let early : e < 64 = mod-lt q (lit< tt) in
      let after : 1 + (63 - e) ≡ 64 - e = omega arith in
      let halves : (x : ℕ) → x / 2 / 2 ^ (63 - e) ≡ x / 2 ^ (64 - e) = λ x. shr-shr x 1 (63 - e) ∙ ap (λ (k : ℕ). x / 2 ^ k) after in
      let next : 64 * (i + 1) ≡ 64 * i + 64 = omega arith in
      let at : 64 * i + e ≡ q = omega arith in
      ap₂ (λ (x y : ℕ). bit_or (x * 2 ^ e % 2 ^ 64) y) (entry n i r (omega arith))
      (halves (get_or (sequence f s n r) (i + 1) 0)
      ∙ ap (λ (x : ℕ). x / 2 ^ (64 - e))
      (entry n (i + 1) r h
      ∙ ap (λ (x : ℕ). given f s 64 x 0) (ap (λ (k : ℕ). times f k r) next ∙ times-add f (64 * i) 64 r)))
      ∙ joined e (64 - e) (times f (64 * i) r) (omega arith)
      ∙ ap (λ (x : ℕ). given f s 64 x 0) (sym (times-add f (64 * i) e r) ∙ ap (λ (k : ℕ). times f k r) at)
