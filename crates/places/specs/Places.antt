-- What Reading, Place of and Gap answer, for every input: document 01, "Signals and places" and "Operations and refusals". "Where several refusals apply,
-- the one written first is given."
-- Assumes nothing.
use Rattle.std.specs.Prelude.{◌≡◌, ℕ, ◌+◌, ◌*◌, ◌/◌, ◌%◌, ◌<◌, true, cond, ◌&&◌, ◌||◌, ltb, eqb, Result, Ok, Err, ℤ, pos, neg_ℤ, ◌+ℤ◌, ◌-ℤ◌, ◌*ℤ◌, ◌≤ℤ◌}
use Rattle.std.specs.Int.Signed.{lt_z, le_z}
use Rattle.machine.specs.Signals.{week_of}
use Rattle.machine.specs.Machine.{opened, advance, is_signal}
use Rattle.refusals.specs.Refusal.{number_of}
use Rattle.refusals.specs.declared.Refusal.{Refusal}
use Rattle.places.specs.declared.readings.Reading.{Reading}

-- An answer: what was asked for, or document 01's number of the refusal.
pub data Reply (A : Type 0) : Type 0 where
  answer : A → Reply A
  refusal : ℕ → Reply A

-- ---- epochs

-- "An epoch is 1.5 seconds, E chips: 1,534,500 for signal 1; 767,250 for 3 and 4; 15,345,000 for the rest."
abbrev pub epoch_chips : ℕ → ℕ
epoch_chips signal = cond (eqb signal 1) 1534500 (cond (eqb signal 3 || eqb signal 4) 767250 15345000)

-- "W is 403,200 times E."
abbrev pub epochs : ℕ
epochs = 403200

-- the week of every signal is so many of its epochs
abbrev pub WeekByEpochs : Type 0
WeekByEpochs = (signal : ℕ) → is_signal signal ≡ true → week_of signal ≡ epochs * epoch_chips signal

-- ---- reading

-- what each case of the answer says: epoch and chip
abbrev pub of_read : Result Reading Refusal → Reply (ℕ × ℕ)
of_read (Ok read) = answer (read.epoch, read.chip)
of_read (Err r) = refusal (number_of r)

-- "(signal, place): epoch and chip in it. 1, 3.": the whole epochs before the place, and the chips since
unfoldable pub reading_reply : ℕ → ℕ → Reply (ℕ × ℕ)
reading_reply signal place =
    cond (is_signal signal)
    (cond (ltb place (week_of signal))
    (answer (place / epoch_chips signal, place % epoch_chips signal))
    (refusal 3))
    (refusal 1)

-- of P, the epoch that Reading answers is the epoch field of the stepped machine at that place, for every PRN
abbrev pub EpochOfP : Type 0
EpochOfP = (prn place epoch chip : ℕ) → reading_reply 2 place ≡ answer (epoch, chip) → (advance place (opened 2 prn)).epoch ≡ epoch

-- ---- place of

-- what each case of the answer says: the place
abbrev pub of_placed : Result ℕ Refusal → Reply ℕ
of_placed (Ok place) = answer place
of_placed (Err r) = refusal (number_of r)

-- "(signal, epoch, chip): 1; 7: epoch not below 403,200; 8: chip not below E.": the place after so many whole epochs and so many chips
unfoldable pub place_of_reply : ℕ → ℕ → ℕ → Reply ℕ
place_of_reply signal epoch chip =
    cond (is_signal signal)
    (cond (ltb epoch epochs)
    (cond (ltb chip (epoch_chips signal))
    (answer (epoch * epoch_chips signal + chip))
    (refusal 8))
    (refusal 7))
    (refusal 1)

-- ---- gap, in signed numbers: `pos n` is n, and `le_z` and `lt_z` compare

-- what each case of the answer says: the chips, a signed number
abbrev pub of_parted : Result ℤ Refusal → Reply ℤ
of_parted (Ok chips) = answer chips
of_parted (Err r) = refusal (number_of r)

-- d less w where it is half or more, d plus w where it is below -half, else d
abbrev pub folded_by : ℤ → ℤ → ℤ → ℤ
folded_by half w d = cond (le_z half d) (d -ℤ w) (cond (lt_z d (neg_ℤ half)) (d +ℤ w) d)

-- "brought by adding or taking W into -W/2 to W/2 - 1"
abbrev pub folded : ℕ → ℤ → ℤ
folded w d = folded_by (pos (w / 2)) (pos w) d

-- "(signal, a, b): signed chips from a to b, b - a brought by adding or taking W into -W/2 to W/2 - 1. 1; 3 for either place."
unfoldable pub gap_reply : ℕ → ℕ → ℕ → Reply ℤ
gap_reply signal a b =
    cond (is_signal signal)
    (cond (ltb a (week_of signal) && ltb b (week_of signal))
    (answer (folded (week_of signal) (pos b -ℤ pos a)))
    (refusal 3))
    (refusal 1)

-- x and y are congruent modulo w: they are whole weeks of w apart
abbrev pub Congruent : ℕ → ℤ → ℤ → Type 0
Congruent w x y = (k : ℤ) × (x ≡ y +ℤ k *ℤ pos w)

-- z is from -w/2 to w/2 - 1
pub record WithinHalf (w : ℕ) (z : ℤ) : Type 0 where
  pub least : neg_ℤ (pos (w / 2)) ≤ℤ z
  pub most : z ≤ℤ (pos (w / 2) -ℤ pos 1)

-- g is b - a brought into that range by whole weeks of w, and is the only number that is
pub record IsGap (w a b : ℕ) (g : ℤ) : Type 0 where
  pub within_half : WithinHalf w g
  pub congruent : Congruent w g (pos b -ℤ pos a)
  pub only : (z : ℤ) → WithinHalf w z → Congruent w z (pos b -ℤ pos a) → z ≡ g

-- From a place to itself the gap is 0. The other way than g, from b to a, it is -g; but -W/2 stays -W/2, since W/2 is out of the range.
pub record BackAgain (signal a b : ℕ) (g : ℤ) : Type 0 where
  pub none : a ≡ b → g ≡ pos 0
  pub half_week : g ≡ neg_ℤ (pos (week_of signal / 2)) → gap_reply signal b a ≡ answer g
  pub turned : (g ≡ neg_ℤ (pos (week_of signal / 2)) → ⊥) → gap_reply signal b a ≡ answer (neg_ℤ g)

-- ---- the ends of the ranges

-- What the calls answer at the ends of their ranges, and just past them.
pub record EndValues : Type 0 where
  -- the last place of the week, of P, is the last chip of the last epoch
  pub last_read : reading_reply 2 6187103999999 ≡ answer (403199, 15344999)
  pub last_place : place_of_reply 2 403199 15344999 ≡ answer 6187103999999
  -- W, 403,200 and E are refused, and 7 comes before 8
  pub past_the_week : reading_reply 2 6187104000000 ≡ refusal 3
  pub past_the_epochs : place_of_reply 2 403200 0 ≡ refusal 7
  pub past_the_chips : place_of_reply 2 0 15345000 ≡ refusal 8
  pub past_both : place_of_reply 2 403200 15345000 ≡ refusal 7
  -- the gaps of C/A next to half a week and next to the week's end; either place alone is refused with 3
  pub largest_gap : gap_reply 1 0 309355199999 ≡ answer (pos 309355199999)
  pub half_a_week_on : gap_reply 1 0 309355200000 ≡ answer (neg_ℤ (pos 309355200000))
  pub half_a_week_back : gap_reply 1 309355200000 0 ≡ answer (neg_ℤ (pos 309355200000))
  pub one_back : gap_reply 1 0 618710399999 ≡ answer (neg_ℤ (pos 1))
  pub one_on : gap_reply 1 618710399999 0 ≡ answer (pos 1)
  pub first_past : gap_reply 1 618710400000 0 ≡ refusal 3
  pub second_past : gap_reply 1 0 618710400000 ≡ refusal 3
  -- 257 and 4,294,967,297 end in the bits of 1, and are refused and not narrowed
  pub reading_257 : (x : ℕ) → reading_reply 257 x ≡ refusal 1
  pub reading_4294967297 : (x : ℕ) → reading_reply 4294967297 x ≡ refusal 1
  pub place_257 : (x y : ℕ) → place_of_reply 257 x y ≡ refusal 1
  pub place_4294967297 : (x y : ℕ) → place_of_reply 4294967297 x y ≡ refusal 1
  pub gap_257 : (x y : ℕ) → gap_reply 257 x y ≡ refusal 1
  pub gap_4294967297 : (x y : ℕ) → gap_reply 4294967297 x y ≡ refusal 1
