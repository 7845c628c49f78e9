-- The known places of `specs/KnownPlaces.antt`: some are stepped to, those further on are by the law of the week.
-- Assumes nothing.
use mathlib.Core.Bool.{true}
use mathlib.Core.Path.{◌≡◌, refl, sym, ap, ap₂, ◌∙◌}
use mathlib.Core.List.{[], ◌∷◌}
use Prim.Native.Nat.{ℕ, zero, suc, ◌+◌, ◌/◌, ◌%◌, ◌^◌, ◌<◌}
use native.Mathlib.Nat.{pow-suc}
use native.Mathlib.Omega.{arith}
use lib.Arith.{lt-one}
use lib.Count.{ones, ones_in, ones_step}
use lib.Dec.{lit<}
use Rattle.registers.specs.Times.{times}
use Rattle.registers.specs.Register.{stage, sum_of, shift}
use Rattle.starts.specs.Starts.{stages_ca, stages_of, start_i5, advances_i5, advanced_xb}
use Rattle.machine.specs.Generators.{fresh}
use Rattle.machine.specs.Signals.{week_of}
use Rattle.machine.specs.Machine.{chips, chip, step, opened, advance, is_signal, is_prn}
use Rattle.machine.specs.declared.Mode.TheVariants.{Held}
use Rattle.machine.specs.declared.Channel.{Channel}
use Rattle.machine.proofs.Advance.{advance_none}
use Rattle.week.specs.Standing.{in_period, standing_at, generator_at}
use Rattle.week.proofs.LawOfTheWeek.{at_place, last_step}
use Rattle.seeks.specs.Leaps.{phase_ones, leaps_to}
use Rattle.replies.specs.Reply.{Reply}
use Rattle.call_seek.specs.Seek.{seek_reply}
use Rattle.call_seek.proofs.Seeks.{seeks_accepted}
use Rattle.places.proofs.EndValues.{half_a_week_on}
use Rattle.known_places.specs.KnownPlaces.{first_chips, p, leaps_of, KnownPlaces}

-- ---- near the start: stepped

ca_chips : (first_chips 10 1 1 ≡ 0o1440) × (first_chips 10 1 34 ≡ 0o1713) × (first_chips 10 1 37 ≡ 0o1713)
unfolding chips chip step opened stage sum_of shift stages_ca stages_of
ca_chips = (refl, refl, refl)

p_chips : (first_chips 12 2 1 ≡ 0o4444) × (first_chips 12 2 2 ≡ 0o4000) × (first_chips 12 2 10 ≡ 0o4343)
unfolding chips chip step opened stage sum_of shift
p_chips = (refl, refl, refl)

i5_chips : first_chips 13 5 1 ≡ 0b1101100010101
unfolding chips chip step opened stage sum_of shift start_i5 advances_i5 advanced_xb times
i5_chips = refl

x1a_there : (prn : ℕ) → (p prn 4091).first.register ≡ 0b000100100100
unfolding advance times step opened stage sum_of shift
x1a_there prn = refl

xa_there : (prn : ℕ) → (advance 8190 (opened 5 prn)).first ≡ fresh 0b1111111111111 1
unfolding advance times step opened stage sum_of shift
xa_there prn = refl

-- ---- further on: by the law of the week

module _ (prn : ℕ) where
  at_15344656 : ((p prn 15344656).second.mode ≡ Held 343) × ((p prn 15344656).fourth.mode ≡ Held 380)
  unfolding generator_at standing_at in_period
  at_15344656 =
      let e = at_place 2 prn 15344656 (lit< tt) in
      (ap (λ (c : Channel). c.second.mode) e, ap (λ (c : Channel). c.fourth.mode) e)

  at_15344999 : ((p prn 15344999).second.mode ≡ Held 0) × ((p prn 15344999).third.mode ≡ Held 37)
  unfolding generator_at standing_at in_period
  at_15344999 =
      let e = at_place 2 prn 15344999 (lit< tt) in
      (ap (λ (c : Channel). c.second.mode) e, ap (λ (c : Channel). c.third.mode) e)

  at_15345000 : ((p prn 15345000).epoch ≡ 1) × ((p prn 15345000).second.phase ≡ 0) × ((p prn 15345000).third.mode ≡ Held 36)
  unfolding generator_at standing_at in_period
  at_15345000 =
      let e = at_place 2 prn 15345000 (lit< tt) in
      (ap (λ (c : Channel). c.epoch) e, ap (λ (c : Channel). c.second.phase) e, ap (λ (c : Channel). c.third.mode) e)

  at_6187103995908 : ((p prn 6187103995908).second.phase ≡ 344) × ((p prn 6187103995908).third.phase ≡ 1069) × ((p prn 6187103995908).fourth.phase ≡ 966)
  unfolding generator_at standing_at in_period
  at_6187103995908 =
      let e = at_place 2 prn 6187103995908 (lit< tt) in
      (ap (λ (c : Channel). c.second.phase) e, ap (λ (c : Channel). c.third.phase) e, ap (λ (c : Channel). c.fourth.phase) e)

  at_6187103998930 : (p prn 6187103998930).third.mode ≡ Held 1069
  unfolding generator_at standing_at in_period
  at_6187103998930 = ap (λ (c : Channel). c.third.mode) (at_place 2 prn 6187103998930 (lit< tt))

  at_6187103999034 : (p prn 6187103999034).fourth.mode ≡ Held 965
  unfolding generator_at standing_at in_period
  at_6187103999034 = ap (λ (c : Channel). c.fourth.mode) (at_place 2 prn 6187103999034 (lit< tt))

-- ---- leaps

-- the ones of a number of k digits, counted over k digits, which computes at any number
ones_in_lem : (k n : ℕ) → n < 2 ^ k → ones n ≡ ones_in k n
unfolding ones ones_in
ones_in_lem zero n h = ap ones (lt-one h)
ones_in_lem (suc k) n h = ones_step n ∙ ap (λ (x : ℕ). n % 2 + x) (ones_in_lem k (n / 2) (omega (arith, pow-suc 2 k)))

-- a seek from an opened channel tells the leaps of the rule
tells : (signal prn place n : ℕ) → is_signal signal ≡ true → is_prn prn ≡ true → place < week_of signal → leaps_to signal prn place ≡ n → leaps_of signal prn place ≡ n ∷ []
tells signal prn place n signal_ok prn_ok h e =
    ap (λ (ch : Channel). (seek_reply ch place).leaps) (sym (advance_none (opened signal prn)))
    ∙ ap (λ (r : Reply). r.leaps) (seeks_accepted signal prn signal_ok prn_ok 0 place h)
    ∙ ap (λ (m : ℕ). m ∷ []) e

leaps_of_p : (prn : ℕ) → leaps_to 2 prn 15344999 ≡ 40
unfolding leaps_to generator_at standing_at in_period ones_in
leaps_of_p prn =
    ap₂ phase_ones (at_place 2 prn 15344999 (lit< tt)) (at_place 2 prn 15344962 (lit< tt))
    ∙ ap₂ ◌+◌ (ap₂ ◌+◌ (ap₂ ◌+◌ (ones_in_lem 12 4091 (lit< tt)) (ones_in_lem 12 4092 (lit< tt))) (ones_in_lem 12 4054 (lit< tt))) (ones_in_lem 12 4092 (lit< tt))

leaps_of_ca : (prn : ℕ) → leaps_to 1 prn 1022 ≡ 18
unfolding leaps_to generator_at standing_at in_period ones_in
leaps_of_ca prn =
    ap₂ phase_ones (at_place 1 prn 1022 (lit< tt)) (at_place 1 prn 985 (lit< tt))
    ∙ ap₂ ◌+◌ (ap₂ ◌+◌ (ap₂ ◌+◌ (ones_in_lem 10 1022 (lit< tt)) (ones_in_lem 10 1022 (lit< tt))) (ones_in_lem 1 0 (lit< tt))) (ones_in_lem 1 0 (lit< tt))

-- ---- all of it

pub known_places : KnownPlaces
known_places =
    record {
      ca_1 = ca_chips.0;
      ca_34 = ca_chips.1;
      ca_37 = ca_chips.2;
      p_1 = p_chips.0;
      p_2 = p_chips.1;
      p_10 = p_chips.2;
      p_4091 = x1a_there;
      p_15344656 = at_15344656;
      p_15344999 = at_15344999;
      p_leaps = λ prn prn_ok. tells 2 prn 15344999 40 refl prn_ok (lit< tt) (leaps_of_p prn);
      p_15345000 = at_15345000;
      p_6187103995908 = at_6187103995908;
      p_6187103998930 = at_6187103998930;
      p_6187103999034 = at_6187103999034;
      p_6187103999999 = λ prn. last_step 2 prn 6187103999999 refl;
      i5_1 = i5_chips;
      xa_8190 = xa_there;
      ca_leaps = λ prn prn_ok. tells 1 prn 1022 18 refl prn_ok (lit< tt) (leaps_of_ca prn);
      ca_gap = half_a_week_on;
    }
