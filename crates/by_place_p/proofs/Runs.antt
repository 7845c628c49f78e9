-- A run of places, in each of which the four generators tell their chips.
--     fed        a source that a table feeds gives the chips of the table's register
--     chip_at    the chip so many places on
--     run_chip   it is the sum of the four generators' chips
--     run_is     and so the sums of four sources are the chips of the run
-- Assumes nothing.
use Rattle.std.proofs.Common.{◌≡◌, ℕ, ◌+◌, ◌-◌, ◌%◌, ◌<◌, ◌≤◌, List, length, arith, refl, sym, ap, subst, ◌∙◌}
use Rattle.registers.specs.Times.{times}
use Rattle.registers.specs.Register.{stage}
use Rattle.week.specs.declared.Course.{Course}
use Rattle.week.specs.Standing.{standing_at}
use Rattle.week.specs.Week.{course_x1a, course_x1b, course_x2a, course_x2b}
use Rattle.standard.specs.Standard.{x1a, x1b, x2, code_p}
use Rattle.standard.proofs.Phases.{phase_runs, x1b_phase, x2a_phase, x2b_phase}
use Rattle.columns.specs.Rows.{row}
use Rattle.columns.specs.Columns.{chips_of, round, in_columns, Round, Sums, sum_chip}
use Rattle.columns.specs.declared.Four.{Four}
use Rattle.columns.proofs.Rounds.{columns_round}
use Rattle.by_place_p.specs.Feeds.{Feeds, chip_x1a, chip_x1b, chip_x2a, chip_x2b}
use Rattle.by_place_p.specs.declared.Source.{Source}
use Rattle.by_place_p.specs.declared.Sources.{Sources}
use Rattle.by_place_p.proofs.Feeding.{mod_on, told}

-- ---- a generator at a place: its source, course, place and table are what calls have given

-- its chips are x 0, x 1 .., as a register gives them
pub fed : (t : List ℕ) (s : Source) (k : Course) (p place : ℕ) → ((y : ℕ → ℕ) → Round t k.cycle y → Feeds s k y p) → p ≡ place
    → (shift : ℕ → ℕ) (start : ℕ) (c : Course) (x : ℕ → ℕ) → ((n : ℕ) → x n ≡ stage 12 (times shift n start)) → 127 ≤ c.cycle
    → k ≡ c → t ≡ in_columns (round 127 (chips_of shift 12 c.cycle start)) → c.cycle + 15 ≤ length t → Feeds s c x place
fed t s k p place feeds at shift start c x chips long course is room =
    told t s k c x p place course at (subst (Round t c.cycle) (λ i q. sym (chips q) i) (columns_round shift 12 c.cycle start t is long room)) feeds

-- ---- a chip

-- the chip j places on, round the week
abbrev pub chip_at : ℕ → ℕ → ℕ → ℕ
chip_at prn place j = code_p prn ((place + j) % 6187104000000)

x1a_phase : (t : ℕ) → t < 6187104000000 → (standing_at course_x1a t).phase ≡ t % 4092
x1a_phase t h = phase_runs course_x1a t h (omega arith) ∙ let same : t % 15345000 % 4092 ≡ t % 4092 = omega arith in same

pub run_chip : (prn place at here before j : ℕ) → here ≡ (place + at) % 6187104000000 → before ≡ (here + (6187104000000 - prn)) % 6187104000000
    → here + j < 6187104000000 → before + j < 6187104000000
    → (chip_x1a (standing_at course_x1a (here + j)).phase + chip_x1b (standing_at course_x1b (here + j)).phase
    + chip_x2a (standing_at course_x2a (before + j)).phase + chip_x2b (standing_at course_x2b (before + j)).phase) % 2
    ≡ chip_at prn place (at + j)
run_chip prn place at here before j here-is before-is h l =
    let whole : place + (at + j) ≡ (place + at) + j = omega arith in
    let there : (place + (at + j)) % 6187104000000 ≡ here + j
    = ap (λ n. n % 6187104000000) whole ∙ mod_on (place + at) j 6187104000000 (omega (arith, here-is, h)) ∙ ap (λ n. n + j) (sym here-is) in
    let swapped : here + j + (6187104000000 - prn) ≡ (here + (6187104000000 - prn)) + j = omega arith in
    let late : (here + j + (6187104000000 - prn)) % 6187104000000 ≡ before + j
    = ap (λ n. n % 6187104000000) swapped ∙ mod_on (here + (6187104000000 - prn)) j 6187104000000 (omega (arith, before-is, l)) ∙ ap (λ n. n + j) (sym before-is) in
    (λ i. (chip_x1a (x1a_phase (here + j) h i) + chip_x1b (x1b_phase (here + j) h i) + chip_x2a (x2a_phase (before + j) l i) + chip_x2b (x2b_phase (before + j) l i)) % 2)
    ∙ sums (x1a (here + j)) (x1b (here + j)) _ _
    ∙ ap (λ n. (x1a (here + j) + x1b (here + j) + x2 n) % 2) (sym late)
    ∙ ap (code_p prn) (sym there)
  where
    sums : (a b c d : ℕ) → (a + b + c + d) % 2 ≡ (a + b + (c + d) % 2) % 2
    sums a b c d = omega arith

-- ---- a run

-- numbers y 0, y 1 .. y (k - 1) stand in a list, and the first n of them are the chips from a place on
pub record IsRun (prn place at n k : ℕ) (part : List ℕ) : Type 0 where
  pub chips : ℕ → ℕ
  pub stand : part ≡ row chips k
  pub right : (j : ℕ) → j < n → chips j ≡ chip_at prn place (at + j)

-- from the place `here`, n chips of it, none of them past what a source tells
pub run_is : (prn place at here n k : ℕ) → here ≡ (place + at) % 6187104000000 → (s : Sources)
    → Feeds s.x1a course_x1a chip_x1a here → Feeds s.x1b course_x1b chip_x1b here
    → Feeds s.x2a course_x2a chip_x2a ((here + (6187104000000 - prn)) % 6187104000000) → Feeds s.x2b course_x2b chip_x2b ((here + (6187104000000 - prn)) % 6187104000000)
    → n ≤ s.x1a.left → n ≤ s.x1b.left → n ≤ s.x2a.left → n ≤ s.x2b.left
    → (from : Four) → from ≡ record { a = s.x1a.phase; b = s.x1b.phase; c = s.x2a.phase; d = s.x2b.phase }
    → (part : List ℕ) → Sums s.x1a.columns.now s.x1b.columns.now s.x2a.columns.now s.x2b.columns.now from k part
    → IsRun prn place at n k part
run_is prn place at here n k here-is s fa fb fc fd la lb lc ld from from-is part sums =
    let before = (here + (6187104000000 - prn)) % 6187104000000 in
    let phases : Four = record { a = s.x1a.phase; b = s.x1b.phase; c = s.x2a.phase; d = s.x2b.phase } in
    let ya = fa.tells in
    let yb = fb.tells in
    let yc = fc.tells in
    let yd = fd.tells in
    record {
      chips = sum_chip ya.0 yb.0 yc.0 yd.0 phases;
      stand = sums ya.0 yb.0 yc.0 yd.0 ya.1 yb.1 yc.1 yd.1 ∙ ap (λ (f : Four). row (sum_chip ya.0 yb.0 yc.0 yd.0 f) k) from-is;
      right = λ j h.
          (λ i. (ya.2 j (omega (arith, h, la)) i + yb.2 j (omega (arith, h, lb)) i + yc.2 j (omega (arith, h, lc)) i + yd.2 j (omega (arith, h, ld)) i) % 2)
          ∙ run_chip prn place at here before j here-is refl (omega (arith, h, la, fa.in_week)) (omega (arith, h, lc, fc.in_week));
    }
