-- The law of sequences.
--     word_tells      the digits of the word that is read at q are the chips of the registers from q on
--     register_is     its highest digits, as many as the register has stages, are the register of q
-- Assumes nothing.
use Prim.Native.Nat.{ℕ, zero, suc, ◌+◌, ◌-◌, ◌*◌, ◌/◌, ◌%◌, ◌^◌, ◌<◌, ◌≤◌}
use mathlib.Core.Path.{◌≡◌, sym, ap, ap₂, ◌∙◌, subst}
use mathlib.Core.List.{List}
use native.Mathlib.Nat.{zero-add, zero-mul, div-one}
use native.Mathlib.Omega.{arith}
use lib.Pow.{high, split, field, shr_lt, shr-shr}
use Rattle.registers.specs.Times.{times}
use Rattle.registers.specs.Register.{stage, sum_of, shift}
use Rattle.registers.proofs.Repeat.{times-add}
use Rattle.registers.proofs.Shifts.{sum_of-lt, shift-lt, tapped, times_keeps}
use Rattle.sequences.specs.Sequences.{given, sequence, word_in, Tells}
use Rattle.sequences.proofs.Words.{given_behind, given_first, given_digit, word_is}

pub word_tells : (f : ℕ → ℕ) (s n start q : ℕ) → q / 64 + 1 < n
    → Tells (word_in (sequence f s n start) q) 64 (λ j. stage s (times f (q + j) start))
word_tells f s n start q h j b =
    ap (λ (x : ℕ). x / 2 ^ (63 - j) % 2) (word_is f s n q start h)
    ∙ given_digit f s (times f q start) j b
    ∙ ap (stage s) (sym (times-add f q j start))

-- ---- a register is its next chips

-- the first m chips of a register of s stages are its highest m stages
first_chips_lem : (s : ℕ) (taps : List ℕ) (m p r : ℕ) → m + p ≡ s → r < 2 ^ s → given (shift s taps) s m r 0 ≡ r / 2 ^ p
unfolding given stage shift
first_chips_lem s taps zero p r e h =
    sym (ap (λ (x : ℕ). x / 2 ^ p) (sym (zero-add r)) ∙ ap (λ (x : ℕ). (x + r) / 2 ^ p) (sym (zero-mul (2 ^ p)))
    ∙ high 0 p (subst (λ (k : ℕ). r < 2 ^ k) (sym e ∙ zero-add p) h))
first_chips_lem s taps (suc m) p r e h =
    let f = shift s taps in
    let less : s - 1 ≡ m + p = omega (arith, e) in
    let one_more : suc p ≡ 1 + p = omega arith in
    let b = sum_of taps r in
    let rest : f r / 2 ^ suc p ≡ r / 2 ^ p % 2 ^ m
    = ap₂ (λ (k l : ℕ). (r % 2 ^ k * 2 + b) / 2 ^ l) less one_more
    ∙ sym (shr-shr (r % 2 ^ (m + p) * 2 + b) 1 p)
    ∙ ap (λ (x : ℕ). x / 2 ^ p) (half (r % 2 ^ (m + p)) b (sum_of-lt taps r))
    ∙ field r m p
    in
    let top : stage s r ≡ r / 2 ^ p / 2 ^ m
    = ap (λ (k : ℕ). r / 2 ^ k % 2) less
    ∙ small (r / 2 ^ (m + p)) (shr_lt 1 (m + p) (subst (λ (k : ℕ). r < 2 ^ k) (omega (arith, e)) h))
    ∙ ap (λ (k : ℕ). r / 2 ^ k) (omega arith)
    ∙ sym (shr-shr r p m)
    in
    given_behind f s m (f r) (0 * 2 + stage s r)
    ∙ ap₂ (λ (x y : ℕ). (0 * 2 + x) * 2 ^ m + y) top
    (first_chips_lem s taps m (suc p) (f r) (omega (arith, e)) (shift-lt s taps r (omega (arith, e))) ∙ rest)
    ∙ ap (λ (x : ℕ). x * 2 ^ m + r / 2 ^ p % 2 ^ m) (plain (r / 2 ^ p / 2 ^ m))
    ∙ split (r / 2 ^ p) m
  where
    half : (x b : ℕ) → b < 2 → (x * 2 + b) / 2 ≡ x
    half x b h = omega arith

    small : (x : ℕ) → x < 2 → x % 2 ≡ x
    small x h = omega arith

    plain : (x : ℕ) → 0 * 2 + x ≡ x
    plain x = omega arith

pub register_is : (s : ℕ) (taps : List ℕ) (n start q : ℕ) → s ≤ 64 → 0 < s → start < 2 ^ s → q / 64 + 1 < n
    → word_in (sequence (shift s taps) s n start) q / 2 ^ (64 - s) ≡ times (shift s taps) q start
register_is s taps n start q le some h room =
    let f = shift s taps in
    let r = times f q start in
    let whole : 64 ≡ s + (64 - s) = omega (arith, le) in
    ap (λ (x : ℕ). x / 2 ^ (64 - s)) (word_is f s n q start room)
    ∙ ap (λ (k : ℕ). given f s k r 0 / 2 ^ (64 - s)) whole
    ∙ given_first f s s (64 - s) r
    ∙ first_chips_lem s taps s 0 r (omega arith) (times_keeps (tapped s taps some) q start h)
    ∙ div-one r
