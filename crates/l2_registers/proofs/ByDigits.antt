-- A register of L2 by its hexadecimal digits.
--     moved_is      the seven entries of the table, added
--     left, fewer   as many shifts as there are left, after one move more
-- Assumes nothing.
use Rattle.std.proofs.Common.{◌≡◌, ℕ, suc, ◌+◌, ◌*◌, ◌/◌, ◌%◌, ◌^◌, ◌<◌, ◌≤◌, List, get_or, take, drop, bit_xor, arith, sym, ap, ap₂, ◌∙◌}
use Rattle.std.proofs.lemmas.Simd.{get_or-chunk}
use native.Mathlib.Nat.{pow-suc}
use lib.Bits.{xor_comm, xor_shifted}
use Rattle.registers.specs.Times.{times}
use Rattle.registers.specs.Register.{shift_l2}
use Rattle.registers.specs.Row.{columns}
use Rattle.registers.proofs.Linear.{times_linear}
use Rattle.registers.proofs.Repeat.{times-add}
use Rattle.registers.proofs.Shifts.{l2}
use Rattle.l2_registers.specs.Moves.{digit_of, moves}
use Rattle.l2_registers.proofs.Tabled.{move_at}

-- ---- digits

pair : (x k y : ℕ) → y < 2 ^ k → bit_xor y (x * 2 ^ k) ≡ x * 2 ^ k + y
pair x k y h = xor_comm y (x * 2 ^ k) ∙ xor_shifted x k y h

by_digits : (r : ℕ) → r < 2 ^ 27
    → r ≡ bit_xor
    (bit_xor (bit_xor (r % 16 * 16 ^ 0) (r / 16 % 16 * 16 ^ 1)) (bit_xor (r / 256 % 16 * 16 ^ 2) (r / 4096 % 16 * 16 ^ 3)))
    (bit_xor (bit_xor (r / 65536 % 16 * 16 ^ 4) (r / 1048576 % 16 * 16 ^ 5)) (r / 16777216 % 16 * 16 ^ 6))
by_digits r h =
    let x0 = r % 16 in
    let x1 = r / 16 % 16 in
    let x2 = r / 256 % 16 in
    let x3 = r / 4096 % 16 in
    let x4 = r / 65536 % 16 in
    let x5 = r / 1048576 % 16 in
    let x6 = r / 16777216 % 16 in
    let first : x0 * 16 ^ 0 ≡ x0 = omega arith in
    let a : bit_xor (x0 * 16 ^ 0) (x1 * 16 ^ 1) ≡ x1 * 2 ^ 4 + x0 = ap (λ x. bit_xor x (x1 * 16 ^ 1)) first ∙ pair x1 4 x0 (omega arith) in
    let b : bit_xor (x2 * 16 ^ 2) (x3 * 16 ^ 3) ≡ x3 * 2 ^ 12 + x2 * 2 ^ 8 = pair x3 12 (x2 * 2 ^ 8) (omega arith) in
    let c : bit_xor (x4 * 16 ^ 4) (x5 * 16 ^ 5) ≡ x5 * 2 ^ 20 + x4 * 2 ^ 16 = pair x5 20 (x4 * 2 ^ 16) (omega arith) in
    let up : x3 * 2 ^ 12 + x2 * 2 ^ 8 ≡ (x3 * 2 ^ 4 + x2) * 2 ^ 8 = omega arith in
    let low : bit_xor (bit_xor (x0 * 16 ^ 0) (x1 * 16 ^ 1)) (bit_xor (x2 * 16 ^ 2) (x3 * 16 ^ 3)) ≡ (x3 * 2 ^ 4 + x2) * 2 ^ 8 + (x1 * 2 ^ 4 + x0)
    = ap₂ bit_xor a (b ∙ up) ∙ pair (x3 * 2 ^ 4 + x2) 8 (x1 * 2 ^ 4 + x0) (omega arith) in
    let above : x6 * 2 ^ 24 + (x5 * 2 ^ 20 + x4 * 2 ^ 16) ≡ ((x6 * 2 ^ 4 + x5) * 2 ^ 4 + x4) * 2 ^ 16 = omega arith in
    let high : bit_xor (bit_xor (x4 * 16 ^ 4) (x5 * 16 ^ 5)) (x6 * 16 ^ 6) ≡ ((x6 * 2 ^ 4 + x5) * 2 ^ 4 + x4) * 2 ^ 16
    = ap (λ x. bit_xor x (x6 * 16 ^ 6)) c ∙ pair x6 24 (x5 * 2 ^ 20 + x4 * 2 ^ 16) (omega arith) ∙ above in
    let all : r ≡ ((x6 * 2 ^ 4 + x5) * 2 ^ 4 + x4) * 2 ^ 16 + ((x3 * 2 ^ 4 + x2) * 2 ^ 8 + (x1 * 2 ^ 4 + x0)) = omega (arith, h) in
    all
    ∙ sym (ap₂ bit_xor low high ∙ pair ((x6 * 2 ^ 4 + x5) * 2 ^ 4 + x4) 16 ((x3 * 2 ^ 4 + x2) * 2 ^ 8 + (x1 * 2 ^ 4 + x0)) (omega arith))

digit_is : (g x : ℕ) → digit_of (g * 16 + x % 16) ≡ x % 16 * 16 ^ g
digit_is g x =
    let part : (g * 16 + x % 16) % 16 ≡ x % 16 = omega arith in
    let place : (g * 16 + x % 16) / 16 ≡ g = omega arith in
    ap₂ (λ x y. x * 16 ^ y) part place

module _ (table : List ℕ) (is : table ≡ take 5408 (moves 7 (columns shift_l2 0 27))) (m : ℕ) (h : m < 52) where
  abbrev n : ℕ
  n = m % 8 * 8 ^ (m / 8)

  abbrev digits : ℕ → List ℕ
  digits k = take k (drop (m * 104) table)

  entry : (k g x i : ℕ) → k ≡ 104 → i ≡ g * 16 + x % 16 → g * 16 + x % 16 < 104 → get_or (digits k) i 0 ≡ times shift_l2 n (x % 16 * 16 ^ g)
  entry k g x i whole e l =
      get_or-chunk (m * 104) k table i 0 (omega (arith, whole, e, l))
      ∙ ap (λ j. get_or table (m * 104 + j) 0) e
      ∙ move_at table is m (g * 16 + x % 16) h l
      ∙ ap (times shift_l2 n) (digit_is g x)

  pub moved_is : (k r a b c d e f g : ℕ) → k ≡ 104 → r < 2 ^ 27 → a ≡ r % 16 → b ≡ 16 + r / 16 % 16 → c ≡ 32 + r / 256 % 16 → d ≡ 48 + r / 4096 % 16
      → e ≡ 64 + r / 65536 % 16 → f ≡ 80 + r / 1048576 % 16 → g ≡ 96 + r / 16777216 % 16
      → bit_xor (bit_xor (bit_xor (get_or (digits k) a 0) (get_or (digits k) b 0)) (bit_xor (get_or (digits k) c 0) (get_or (digits k) d 0)))
      (bit_xor (bit_xor (get_or (digits k) e 0) (get_or (digits k) f 0)) (get_or (digits k) g 0))
      ≡ times shift_l2 n r
  moved_is k r a b c d e f g whole l ea eb ec ed ee ef eg =
      let lin = (times_linear l2.linear n).at_sum in
      let p0 = r % 16 * 16 ^ 0 in
      let p1 = r / 16 % 16 * 16 ^ 1 in
      let p2 = r / 256 % 16 * 16 ^ 2 in
      let p3 = r / 4096 % 16 * 16 ^ 3 in
      let p4 = r / 65536 % 16 * 16 ^ 4 in
      let p5 = r / 1048576 % 16 * 16 ^ 5 in
      let p6 = r / 16777216 % 16 * 16 ^ 6 in
      ap₂ bit_xor
      (ap₂ bit_xor
      (ap₂ bit_xor (entry k 0 r a whole (omega (arith, ea)) (omega (arith, l))) (entry k 1 (r / 16) b whole (omega (arith, eb)) (omega (arith, l))))
      (ap₂ bit_xor (entry k 2 (r / 256) c whole (omega (arith, ec)) (omega (arith, l))) (entry k 3 (r / 4096) d whole (omega (arith, ed)) (omega (arith, l)))))
      (ap₂ bit_xor
      (ap₂ bit_xor (entry k 4 (r / 65536) e whole (omega (arith, ee)) (omega (arith, l))) (entry k 5 (r / 1048576) f whole (omega (arith, ef)) (omega (arith, l))))
      (entry k 6 (r / 16777216) g whole (omega (arith, eg)) (omega (arith, l))))
      ∙ sym
      (ap (times shift_l2 n) (by_digits r l)
      ∙ lin (bit_xor (bit_xor p0 p1) (bit_xor p2 p3)) (bit_xor (bit_xor p4 p5) p6)
      ∙ ap₂ bit_xor
      (lin (bit_xor p0 p1) (bit_xor p2 p3) ∙ ap₂ bit_xor (lin p0 p1) (lin p2 p3))
      (lin (bit_xor p4 p5) p6 ∙ ap (λ x. bit_xor x (times shift_l2 n p6)) (lin p4 p5)))

-- ---- the digits of a phase, the lowest first

-- digits that are left at place i
split : (rest i : ℕ) → rest * 8 ^ i ≡ rest % 8 * 8 ^ i + rest / 8 * 8 ^ suc i
split rest i = parts rest (8 ^ i) ∙ ap (λ x. rest % 8 * 8 ^ i + rest / 8 * x) (sym (pow-suc 8 i))
  where
    parts : (rest x : ℕ) → rest * x ≡ rest % 8 * x + rest / 8 * (x * 8)
    parts rest x = let whole : rest ≡ rest / 8 * 8 + rest % 8 = omega arith in ap (λ y. y * x) whole ∙ regroup (rest / 8) (rest % 8) x
      where
        regroup : (q d x : ℕ) → (q * 8 + d) * x ≡ d * x + q * (x * 8)
        regroup q d x = omega arith

pub fewer : (rest i phase : ℕ) → rest * 8 ^ i ≤ phase → rest / 8 * 8 ^ suc i ≤ phase
fewer rest i phase h = let e = split rest i in omega (arith, h, e)

pub left : (r rest i m next : ℕ) → m ≡ i * 8 + rest % 8 → next ≡ times shift_l2 (m % 8 * 8 ^ (m / 8)) r
    → times shift_l2 (rest / 8 * 8 ^ suc i) next ≡ times shift_l2 (rest * 8 ^ i) r
left r rest i m next e is =
    let digit : m % 8 ≡ rest % 8 = omega (arith, e) in
    let place : m / 8 ≡ i = omega (arith, e) in
    ap (times shift_l2 (rest / 8 * 8 ^ suc i)) (is ∙ ap₂ (λ d k. times shift_l2 (d * 8 ^ k) r) digit place)
    ∙ sym (times-add shift_l2 (rest % 8 * 8 ^ i) (rest / 8 * 8 ^ suc i) r)
    ∙ ap (λ n. times shift_l2 n r) (sym (split rest i))
