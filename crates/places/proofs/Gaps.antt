-- THE GAP, of every signal and any two places of its week.
--     every_gap    Gap answers a number: it is from -W/2 to W/2 - 1, it is congruent to b - a modulo W, and it is the only number that is both
--     gap_is       whatever number Gap answers is that one
--     no_gap       from a place to itself it is 0
--     gap_turned   the other way it is the opposite, unless it is -W/2
--     half_week    -W/2 is -W/2 the other way too
--     back_again   all three
-- Assumes nothing.
use Prim.Native.Nat.{ℕ, ◌+◌, ◌*◌, ◌/◌, ◌%◌, ◌≤◌, ◌<◌}
use mathlib.Core.Bool.{true, false}
use mathlib.Core.Path.{◌≡◌, sym, ap, subst, ◌∙◌}
use native.Mathlib.Decide.{dec_lt}
use native.Mathlib.Nat.{mul-le-mul_right}
use native.Mathlib.Omega.{arith}
use lib.IntN.{ℤ, pos, negsuc, neg_ℤ, ◌+ℤ◌, ◌-ℤ◌, ◌*ℤ◌}
use lib.Signed.{le_z, lt_z, ◌≤ℤ◌}
use Rattle.machine.specs.Signals.{week_of}
use Rattle.machine.specs.Machine.{is_signal}
use Rattle.machine.proofs.Tests.{chosen}
use Rattle.places.specs.Places.{answer, folded, gap_reply, Congruent, WithinHalf, IsGap, BackAgain}
use Rattle.places.proofs.Answers.{gap_answers, gap_accepted}
use Rattle.places.proofs.Epochs.{week_even, week_some}
use Rattle.places.proofs.Differences.{up, down, Is, difference_is, neg_up, neg_down, neg_is, plus, minus, weeks_on, le_passed, le_failed, lt_passed, lt_failed, is_le, le_is, are_same}

-- ---- by numbers

-- g is in that range, and congruent to d
abbrev Brought : ℕ → ℤ → ℤ → Type 0
Brought w d g = WithinHalf w g × Congruent w g d

-- two numbers less than w apart that are whole weeks apart
one_week : (w m n x y : ℕ) → x + n * w ≡ y + m * w → x < y + w → y < x + w → x ≡ y
one_week w m n x y e h k = elim (dec_lt m n) [ yes l ↦ fewer l | no f ↦ elim (dec_lt n m) [ yes l ↦ more l | no g ↦ as_many (omega arith) ] ]
  where
    fewer : m < n → x ≡ y
    fewer l = omega (arith, e, h, k, mul-le-mul_right w l)

    more : n < m → x ≡ y
    more l = omega (arith, e, h, k, mul-le-mul_right w l)

    as_many : m ≡ n → x ≡ y
    as_many f = let weeks : m * w ≡ n * w = ap (λ (i : ℕ). i * w) f in omega (arith, e, weeks)

module _ (w : ℕ) (even : w % 2 ≡ 0) where
  -- p - q against the ends of the range
  halves : (z : ℤ) (p q : ℕ) → Is z p q → q ≤ p + w / 2 → p < w / 2 + q → WithinHalf w z
  halves z p q e low high =
      let half = w / 2 in
      record {
        least = is_le (neg_ℤ (pos half)) z 0 half p q (neg_is (pos half) half 0 (omega arith)) e (omega (arith, low));
        most = is_le z (pos half -ℤ pos 1) p q half 1 e (minus (pos half) half 0 1 (omega arith)) (omega (arith, high));
      }

  low_half : (z : ℤ) (p q : ℕ) → Is z p q → WithinHalf w z → q ≤ p + w / 2
  low_half z p q e r = omega (arith, le_is (neg_ℤ (pos (w / 2))) z 0 (w / 2) p q (neg_is (pos (w / 2)) (w / 2) 0 (omega arith)) e r.least)

  high_half : (z : ℤ) (p q : ℕ) → Is z p q → WithinHalf w z → p < w / 2 + q
  high_half z p q e r = omega (arith, le_is z (pos (w / 2) -ℤ pos 1) p q (w / 2) 1 e (minus (pos (w / 2)) (w / 2) 0 1 (omega arith)) r.most)

  -- two numbers of the range that are congruent to one number are the same
  one_only : (d y z : ℤ) (p q : ℕ) → Is d p q → WithinHalf w y → Congruent w y d → WithinHalf w z → Congruent w z d → y ≡ z
  one_only d y z p q e ry cy rz cz =
      let j = cy.0 in
      let k = cz.0 in
      let y-is : Is y (p + up j * w) (q + down j * w) = subst (λ (x : ℤ). Is x (p + up j * w) (q + down j * w)) (sym cy.1) (weeks_on d j w p q e) in
      let z-is : Is z (p + up k * w) (q + down k * w) = subst (λ (x : ℤ). Is x (p + up k * w) (q + down k * w)) (sym cz.1) (weeks_on d k w p q e) in
      are_same y z (p + up j * w) (q + down j * w) (p + up k * w) (q + down k * w) y-is z-is
      (one_week w (up j + down k) (up k + down j) (p + up j * w + (q + down k * w)) (p + up k * w + (q + down j * w)) (omega arith)
      (omega (arith, even, high_half y (p + up j * w) (q + down j * w) y-is ry, low_half z (p + up k * w) (q + down k * w) z-is rz))
      (omega (arith, even, high_half z (p + up k * w) (q + down k * w) z-is rz, low_half y (p + up j * w) (q + down j * w) y-is ry)))

  -- a difference d of two places, folded: by a week or by none
  module _ (d : ℤ) (a b : ℕ) (is-d : Is d b a) (a_in : a < w) (b-in : b < w) where
    taken : le_z (pos (w / 2)) d ≡ true → Brought w d (d -ℤ pos w)
    taken past =
        let far = le_passed (pos (w / 2)) d (w / 2) 0 b a (omega arith) is-d past in
        let less = minus d b a w is-d in (
          halves (d -ℤ pos w) b (a + w) less (omega (arith, far, even)) (omega (arith, b-in)),
          (negsuc 0, are_same (d -ℤ pos w) (d +ℤ negsuc 0 *ℤ pos w) b (a + w) (b + 0 * w) (a + 1 * w) less (weeks_on d (negsuc 0) w b a is-d) (omega arith)),
        )

    added : lt_z d (neg_ℤ (pos (w / 2))) ≡ true → Brought w d (d +ℤ pos w)
    added below =
        let far = lt_passed d (neg_ℤ (pos (w / 2))) b a 0 (w / 2) is-d (neg_is (pos (w / 2)) (w / 2) 0 (omega arith)) below in
        let more = plus d b a w is-d in (
          halves (d +ℤ pos w) (b + w) a more (omega (arith, a_in)) (omega (arith, far, even)),
          (pos 1, are_same (d +ℤ pos w) (d +ℤ pos 1 *ℤ pos w) (b + w) a (b + 1 * w) (a + 0 * w) more (weeks_on d (pos 1) w b a is-d) (omega arith)),
        )

    kept : le_z (pos (w / 2)) d ≡ false → lt_z d (neg_ℤ (pos (w / 2))) ≡ false → Brought w d d
    kept short above =
        let high = le_failed (pos (w / 2)) d (w / 2) 0 b a (omega arith) is-d short in
        let low = lt_failed d (neg_ℤ (pos (w / 2))) b a 0 (w / 2) is-d (neg_is (pos (w / 2)) (w / 2) 0 (omega arith)) above in (
          halves d b a is-d (omega (arith, low)) (omega (arith, high)),
          (pos 0, are_same d (d +ℤ pos 0 *ℤ pos w) b a (b + 0 * w) (a + 0 * w) is-d (weeks_on d (pos 0) w b a is-d) (omega arith)),
        )

    brought : Brought w d (folded w d)
    brought =
        chosen (Brought w d) (le_z (pos (w / 2)) d) taken
        (λ short. chosen (Brought w d) (lt_z d (neg_ℤ (pos (w / 2)))) added (λ above. kept short above))

-- ---- the reply

gap_folded : (w a b : ℕ) → w % 2 ≡ 0 → a < w → b < w → IsGap w a b (folded w (pos b -ℤ pos a))
gap_folded w a b even a_in b-in =
    let d = pos b -ℤ pos a in
    let is-d = difference_is a b in
    let right = brought w even d a b is-d a_in b-in in
    record {
      within_half = right.0;
      congruent = right.1;
      only = λ z in-z congruent-z. one_only w even d z (folded w d) b a is-d in-z congruent-z right.0 right.1;
    }

module _ (signal a b : ℕ) where
  pub every_gap : is_signal signal ≡ true → a < week_of signal → b < week_of signal
      → (g : ℤ) × (gap_reply signal a b ≡ answer g) × IsGap (week_of signal) a b g
  every_gap s a_in b-in =
      let w = week_of signal in
      (folded w (pos b -ℤ pos a), gap_answers signal a b s a_in b-in, gap_folded w a b (week_even signal s) a_in b-in)

  pub gap_is : (g : ℤ) → gap_reply signal a b ≡ answer g → IsGap (week_of signal) a b g
  gap_is g e =
      let known = gap_accepted signal a b g e in
      subst (IsGap (week_of signal) a b) known.3 (gap_folded (week_of signal) a b (week_even signal known.0) known.1 known.2)

-- ---- there, and the other way

pub no_gap : (signal a : ℕ) → is_signal signal ≡ true → a < week_of signal → gap_reply signal a a ≡ answer (pos 0)
no_gap signal a s a_in =
    let w = week_of signal in
    let d = pos a -ℤ pos a in
    let even = week_even signal s in
    let here : WithinHalf w (pos 0) = halves w even (pos 0) 0 0 (omega arith) (omega arith) (omega (arith, even, week_some signal s)) in
    let none : Congruent w (pos 0) d =
    (pos 0, are_same (pos 0) (d +ℤ pos 0 *ℤ pos w) 0 0 (a + 0 * w) (a + 0 * w) (omega arith) (weeks_on d (pos 0) w a a (difference_is a a)) (omega arith))
    in
    gap_answers signal a a s a_in a_in ∙ ap answer (sym ((gap_folded w a a even a_in a_in).only (pos 0) here none))

module _ (signal a b : ℕ) (g : ℤ) (answered : gap_reply signal a b ≡ answer g) where
  -- where g comes from: k weeks on from b - a
  from_places : (k : ℤ) → g ≡ (pos b -ℤ pos a) +ℤ k *ℤ pos (week_of signal) → Is g (b + up k * week_of signal) (a + down k * week_of signal)
  from_places k e =
      let w = week_of signal in
      subst (λ (x : ℤ). Is x (b + up k * w) (a + down k * w)) (sym e) (weeks_on (pos b -ℤ pos a) k w b a (difference_is a b))

  -- a number of the range that is congruent to a - b is what the other way answers
  other_way : (z : ℤ) → WithinHalf (week_of signal) z → Congruent (week_of signal) z (pos a -ℤ pos b) → gap_reply signal b a ≡ answer z
  other_way z in-z congruent-z =
      let known = gap_accepted signal a b g answered in
      let even = week_even signal known.0 in
      gap_answers signal b a known.0 known.2 known.1
      ∙ ap answer (sym ((gap_folded (week_of signal) b a even known.2 known.1).only z in-z congruent-z))

  pub gap_turned : (g ≡ neg_ℤ (pos (week_of signal / 2)) → ⊥) → gap_reply signal b a ≡ answer (neg_ℤ g)
  gap_turned other =
      let w = week_of signal in
      let known = gap_accepted signal a b g answered in
      let even = week_even signal known.0 in
      let is = gap_is signal a b g answered in
      let k = is.congruent.0 in
      let p = b + up k * w in
      let q = a + down k * w in
      let g-is : Is g p q = from_places k is.congruent.1 in
      let not-half : p + w / 2 ≡ 0 + q → ⊥ =
      λ e. other (are_same g (neg_ℤ (pos (w / 2))) p q 0 (w / 2) g-is (neg_is (pos (w / 2)) (w / 2) 0 (omega arith)) e)
      in
      let turned-is : Is (neg_ℤ g) q p = neg_is g p q g-is in
      let turned-in : WithinHalf w (neg_ℤ g) =
      halves w even (neg_ℤ g) q p turned-is (omega (arith, high_half w even g p q g-is is.within_half)) (omega (arith, low_half w even g p q g-is is.within_half, not-half))
      in
      let ups : up (neg_ℤ k) * w ≡ down k * w = ap (λ (n : ℕ). n * w) (neg_up k) in
      let downs : down (neg_ℤ k) * w ≡ up k * w = ap (λ (n : ℕ). n * w) (neg_down k) in
      other_way (neg_ℤ g) turned-in (
        neg_ℤ k,
        are_same (neg_ℤ g) ((pos a -ℤ pos b) +ℤ neg_ℤ k *ℤ pos w) q p (a + up (neg_ℤ k) * w) (b + down (neg_ℤ k) * w) turned-is
            (weeks_on (pos a -ℤ pos b) (neg_ℤ k) w a b (difference_is b a))
            (omega (arith, ups, downs)),
      )

pub half_week : (signal a b : ℕ) → gap_reply signal a b ≡ answer (neg_ℤ (pos (week_of signal / 2))) → gap_reply signal b a ≡ answer (neg_ℤ (pos (week_of signal / 2)))
half_week signal a b answered =
    let w = week_of signal in
    let g = neg_ℤ (pos (w / 2)) in
    let even = week_even signal (gap_accepted signal a b g answered).0 in
    let is = gap_is signal a b g answered in
    let k = is.congruent.0 in
    let j = neg_ℤ k -ℤ pos 1 in
    let half_is : Is g 0 (w / 2) = neg_is (pos (w / 2)) (w / 2) 0 (omega arith) in
    let g-is = from_places signal a b g answered k is.congruent.1 in
    let j-is : up j + (up k + 1) ≡ down j + down k = minus (neg_ℤ k) (down k) (up k) 1 (neg_is k (up k) (down k) (omega arith)) in
    let weeks : (up j + (up k + 1)) * w ≡ (down j + down k) * w = ap (λ (n : ℕ). n * w) j-is in
    other_way signal a b g answered g is.within_half (
      j,
      are_same g ((pos a -ℤ pos b) +ℤ j *ℤ pos w) 0 (w / 2) (a + up j * w) (b + down j * w) half_is
          (weeks_on (pos a -ℤ pos b) j w a b (difference_is b a))
          (omega (arith, even, weeks, half_is, g-is)),
    )

pub back_again : (signal a b : ℕ) (g : ℤ) → gap_reply signal a b ≡ answer g → BackAgain signal a b g
back_again signal a b g answered =
    let known = gap_accepted signal a b g answered in
    record {
      none = λ e. let same : answer g ≡ answer (pos 0) = sym answered ∙ ap (gap_reply signal a) (sym e) ∙ no_gap signal a known.0 known.1 in cc;
      half_week = λ e. half_week signal a b (answered ∙ ap answer e) ∙ ap answer (sym e);
      turned = gap_turned signal a b g answered;
    }
