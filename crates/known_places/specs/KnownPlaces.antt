-- The known places: chips, fields, leaps and a gap that are printed for places of the week, each row one field of a record, and the week's last step. They
-- are rows of the stepped machine, of what a seek from the opened channel replies, and of what Gap replies. A row that names no PRN is for every PRN.
-- Assumes nothing.
use Rattle.std.specs.Prelude.{ℕ, ◌+◌, ◌*◌, List, [], ◌∷◌, ◌≡◌, true, pos, neg_ℤ}
use Rattle.machine.specs.Generators.{fresh}
use Rattle.machine.specs.Machine.{chips, step, opened, advance, is_prn}
use Rattle.machine.specs.declared.Mode.TheVariants.{Held}
use Rattle.machine.specs.declared.Channel.{Channel}
use Rattle.call_seek.specs.Seek.{seek_reply}
use Rattle.places.specs.Places.{answer, gap_reply}

-- chips as the number that they are printed as, the first chip leftmost
abbrev pub printed : ℕ → List ℕ → ℕ
printed n [] = n
printed n (b ∷ bs) = printed (n * 2 + b) bs

-- the first n chips of a signal's PRN
abbrev pub first_chips : ℕ → ℕ → ℕ → ℕ
first_chips n signal prn = printed 0 (chips n (opened signal prn))

-- P of a PRN at a place
abbrev pub p : ℕ → ℕ → Channel
p prn place = advance place (opened 2 prn)

-- the leaps that a seek from an opened channel tells
abbrev pub leaps_of : ℕ → ℕ → ℕ → List ℕ
leaps_of signal prn place = (seek_reply (opened signal prn) place).leaps

-- ---- the table

pub record KnownPlaces : Type 0 where
  -- ◆ "First ten C/A chips, octal: PRN 1 1440; PRN 34 and 37 both 1713."
  pub ca_1 : first_chips 10 1 1 ≡ 0o1440
  pub ca_34 : first_chips 10 1 34 ≡ 0o1713
  pub ca_37 : first_chips 10 1 37 ≡ 0o1713
  -- "First twelve of P: ◆ PRN 1 4444, ◆ PRN 2 4000, ◆ PRN 10 4343."
  pub p_1 : first_chips 12 2 1 ≡ 0o4444
  pub p_2 : first_chips 12 2 2 ≡ 0o4000
  pub p_10 : first_chips 12 2 10 ≡ 0o4343
  -- ◆ "P at 4,091: X1A is 000100100100."
  pub p_4091 : (prn : ℕ) → (p prn 4091).first.register ≡ 0b000100100100
  -- ◆ "P at 15,344,656: X1B held 343, X2B held 380."
  pub p_15344656 : (prn : ℕ) → ((p prn 15344656).second.mode ≡ Held 343) × ((p prn 15344656).fourth.mode ≡ Held 380)
  -- ◆ "At 15,344,999: X1B held 0, X2A held 37, and a seek there makes 40 leaps."
  pub p_15344999 : (prn : ℕ) → ((p prn 15344999).second.mode ≡ Held 0) × ((p prn 15344999).third.mode ≡ Held 37)
  pub p_leaps : (prn : ℕ) → is_prn prn ≡ true → leaps_of 2 prn 15344999 ≡ 40 ∷ []
  -- ◆ "At 15,345,000: epoch 1, X1B phase 0, X2A held 36."
  pub p_15345000 : (prn : ℕ) → ((p prn 15345000).epoch ≡ 1) × ((p prn 15345000).second.phase ≡ 0) × ((p prn 15345000).third.mode ≡ Held 36)
  -- ◆ "P at 6,187,103,995,908: phases X1B 344, X2A 1,069, X2B 966."
  pub p_6187103995908 : (prn : ℕ)
      → ((p prn 6187103995908).second.phase ≡ 344) × ((p prn 6187103995908).third.phase ≡ 1069) × ((p prn 6187103995908).fourth.phase ≡ 966)
  -- ◆ "At 6,187,103,998,930 X2A held 1,069."
  pub p_6187103998930 : (prn : ℕ) → (p prn 6187103998930).third.mode ≡ Held 1069
  -- ◆ "At 6,187,103,999,034 X2B held 965."
  pub p_6187103999034 : (prn : ℕ) → (p prn 6187103999034).fourth.mode ≡ Held 965
  -- "From 6,187,103,999,999 a step gives the opened channel."
  pub p_6187103999999 : (prn : ℕ) → step (p prn 6187103999999) ≡ opened 2 prn
  -- ◆ "I5 PRN 1, first 13 chips 1101100010101."
  pub i5_1 : first_chips 13 5 1 ≡ 0b1101100010101
  -- ◆ "XA at 8,190: all ones, cycles 1", and phase 0, running
  pub xa_8190 : (prn : ℕ) → (advance 8190 (opened 5 prn)).first ≡ fresh 0b1111111111111 1
  -- ◆ "C/A at 1,022: 18 leaps."
  pub ca_leaps : (prn : ℕ) → is_prn prn ≡ true → leaps_of 1 prn 1022 ≡ 18 ∷ []
  -- ◆ "C/A gap from 0 to 309,355,200,000: -309,355,200,000."
  pub ca_gap : gap_reply 1 0 309355200000 ≡ answer (neg_ℤ (pos 309355200000))
