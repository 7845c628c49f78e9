-- The shift registers of IS-GPS-200L 3.3.2.2 to 3.3.2.4 and of IS-GPS-705 3.3.2.2: what a polynomial and an initial vector as printed mean, the polynomials
-- and the vectors, and the chips that a register gives. It takes nothing from the machine's registers; that both are the same is `Laws.antt: SameRegisters`.
-- A register is a number whose binary digits are what the stages hold, stage 1 the lowest digit. So a vector that is printed with the highest stage at the
-- left is that number in base two as printed.
-- Assumes nothing.
use Rattle.std.specs.Prelude.{ℕ, ◌+◌, ◌-◌, ◌*◌, ◌/◌, ◌%◌, ◌^◌, cond, List, [], ◌∷◌, eqb}
use Rattle.std.specs.Int.Bits.{bit_xor}
use Rattle.registers.specs.Times.{times}

-- ---- a polynomial "as referenced to the shift register input"

-- what stage k holds
unfoldable pub held_in : ℕ → ℕ → ℕ
held_in k r = r / 2 ^ (k - 1) % 2

-- What a term X^k stands for: stage k. The term 1, which is X^0, is the input itself and names no stage.
unfoldable pub term : ℕ → ℕ → ℕ
term k r = cond (eqb k 0) 0 (held_in k r)

-- A polynomial is the list of its exponents, in the order in which it is printed. The input is the sum modulo 2 of the stages that it names.
unfoldable pub input : List ℕ → ℕ → ℕ
input [] r = 0
input (k ∷ ks) r = (term k r + input ks r) % 2

-- A shift of a register of so many stages, "from lower to higher stage number": each stage goes one up, the input goes into stage 1, and what the last
-- stage held is gone.
unfoldable pub shifted : ℕ → List ℕ → ℕ → ℕ
shifted stages polynomial r = (r * 2 + input polynomial r) % 2 ^ stages

-- Chip n of a register's sequence, counted from 0: what its last stage, "providing the current output", holds after n shifts from the initial vector.
abbrev pub sequence : ℕ → List ℕ → ℕ → ℕ → ℕ
sequence stages polynomial vector n = held_in stages (times (shifted stages polynomial) n vector)

-- ---- C/A: IS-GPS-200L 3.3.2.3, "10-stage shift registers"

-- "G1 = X^10 + X^3 + 1"
abbrev pub polynomial_g1 : List ℕ
polynomial_g1 = 10 ∷ 3 ∷ 0 ∷ []

-- "G2 = X^10 + X^9 + X^8 + X^6 + X^3 + X^2 + 1"
abbrev pub polynomial_g2 : List ℕ
polynomial_g2 = 10 ∷ 9 ∷ 8 ∷ 6 ∷ 3 ∷ 2 ∷ 0 ∷ []

-- "The initialization vector for the G1 and G2 sequences is 1111111111."
abbrev pub vector_g : ℕ
vector_g = 0b1111111111

-- ---- P: IS-GPS-200L 3.3.2.2, "12-stage registers"

-- "1 + X^6 + X^8 + X^11 + X^12"
abbrev pub polynomial_x1a : List ℕ
polynomial_x1a = 0 ∷ 6 ∷ 8 ∷ 11 ∷ 12 ∷ []

-- "1 + X^1 + X^2 + X^5 + X^8 + X^9 + X^10 + X^11 + X^12"
abbrev pub polynomial_x1b : List ℕ
polynomial_x1b = 0 ∷ 1 ∷ 2 ∷ 5 ∷ 8 ∷ 9 ∷ 10 ∷ 11 ∷ 12 ∷ []

-- "1 + X^1 + X^3 + X^4 + X^5 + X^7 + X^8 + X^9 + X^10 + X^11 + X^12"
abbrev pub polynomial_x2a : List ℕ
polynomial_x2a = 0 ∷ 1 ∷ 3 ∷ 4 ∷ 5 ∷ 7 ∷ 8 ∷ 9 ∷ 10 ∷ 11 ∷ 12 ∷ []

-- "1 + X^2 + X^3 + X^4 + X^8 + X^9 + X^12"
abbrev pub polynomial_x2b : List ℕ
polynomial_x2b = 0 ∷ 2 ∷ 3 ∷ 4 ∷ 8 ∷ 9 ∷ 12 ∷ []

-- "the stage 12 value appears at the left followed by the values of the remaining states in order of descending stage numbers": the vectors at an epoch, as
-- Table 3-VII prints them in its last column too
abbrev pub vector_x1a : ℕ
vector_x1a = 0b001001001000

abbrev pub vector_x1b : ℕ
vector_x1b = 0b010101010100

abbrev pub vector_x2a : ℕ
vector_x2a = 0b100100100101

abbrev pub vector_x2b : ℕ
vector_x2b = 0b010101010100

-- ---- I5 and Q5: IS-GPS-705 3.3.2.2, registers of 13 stages

-- "1 + x^9 + x^10 + x^12 + x^13"
abbrev pub polynomial_xa : List ℕ
polynomial_xa = 0 ∷ 9 ∷ 10 ∷ 12 ∷ 13 ∷ []

-- "1 + x + x^3 + x^4 + x^6 + x^7 + x^8 + x^12 + x^13"
abbrev pub polynomial_xb : List ℕ
polynomial_xb = 0 ∷ 1 ∷ 3 ∷ 4 ∷ 6 ∷ 7 ∷ 8 ∷ 12 ∷ 13 ∷ []

-- "an initial condition of all 1s", of XA, and of XB before it is advanced
abbrev pub vector_l5 : ℕ
vector_l5 = 0b1111111111111

-- ---- L2 CM and L2 CL: IS-GPS-200L 3.3.2.4, a "modular-type shift register generator"

-- "The maximal polynomial used for L2 CM- and L2 CL-codes is 1112225171 (octal) of degree 27.": binary digit k is the coefficient of X^k
abbrev pub polynomial_l2 : ℕ
polynomial_l2 = 0o1112225171

-- A shift of such a register, whose lowest digit is what it gives: where that is 1, the polynomial is added digit by digit modulo 2, which makes it 0, and
-- all digits move one down. That the lowest digit is the one given, and that Table 3-IIa prints the digits in this order, is settled by the end states of
-- the same table (`known_places: end_states`).
unfoldable pub modular_shifted : ℕ → ℕ → ℕ
modular_shifted polynomial r = bit_xor r (r % 2 * polynomial) / 2

-- chip n of its sequence, from an initial state
abbrev pub modular_sequence : ℕ → ℕ → ℕ → ℕ
modular_sequence polynomial state n = times (modular_shifted polynomial) n state % 2
