-- The epoch that Reading answers of a place of P is the epoch field of the stepped machine there, for every PRN and every place of the week.
-- Assumes nothing.
use Prim.Native.Nat.{ℕ}
use mathlib.Core.Path.{◌≡◌, ap, ◌∙◌}
use Rattle.machine.specs.Machine.{opened, advance}
use Rattle.machine.specs.declared.Channel.{Channel}
use Rattle.week.proofs.LawOfTheWeek.{at_place}
use Rattle.places.specs.Places.{answer, reading_reply}
use Rattle.places.proofs.Answers.{reading_accepted}

pub epoch_of_p : (prn place epoch chip : ℕ) → reading_reply 2 place ≡ answer (epoch, chip) → (advance place (opened 2 prn)).epoch ≡ epoch
epoch_of_p prn place epoch chip e =
    let known = reading_accepted 2 place epoch chip e in
    ap (λ (ch : Channel). ch.epoch) (at_place 2 prn place known.1) ∙ known.2
