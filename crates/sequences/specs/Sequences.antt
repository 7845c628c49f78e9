-- The chips that a register gives, as the digits of numbers, for the contracts of inner functions.
-- Assumes nothing.
use Rattle.std.specs.Prelude.{ℕ, zero, suc, ◌+◌, ◌-◌, ◌*◌, ◌/◌, ◌%◌, ◌^◌, ◌<◌, ◌≡◌, List, [], ◌∷◌, get_or}
use Rattle.std.specs.Int.Bits.{bit_or}
use Rattle.registers.specs.Times.{times}
use Rattle.registers.specs.Register.{stage}

-- the digits of a, and behind them the n chips that a register gives at stage s
unfoldable pub given : (ℕ → ℕ) → ℕ → ℕ → ℕ → ℕ → ℕ
given shift s zero r a = a
given shift s (suc n) r a = given shift s n (shift r) (a * 2 + stage s r)

-- the chips that a register gives, n words of 64
unfoldable pub sequence : (ℕ → ℕ) → ℕ → ℕ → ℕ → List ℕ
sequence shift s zero r = []
sequence shift s (suc n) r = given shift s 64 r 0 ∷ sequence shift s n (times shift 64 r)

-- 64 digits from digit q on, of words one behind the other
unfoldable pub word_in : List ℕ → ℕ → ℕ
word_in words q = bit_or (get_or words (q / 64) 0 * 2 ^ (q % 64) % 2 ^ 64) (get_or words (q / 64 + 1) 0 / 2 / 2 ^ (63 - q % 64))

-- the k highest of the 64 digits of a word are x 0, x 1 ..
abbrev pub Tells : ℕ → ℕ → (ℕ → ℕ) → Type 0
Tells word k x = (j : ℕ) → j < k → word / 2 ^ (63 - j) % 2 ≡ x j
