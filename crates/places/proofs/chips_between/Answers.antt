-- `places::chips_between` meets its contract.
-- Assumes nothing.
use mathlib.Core.Path.{◌≡◌, ◌∙◌}
use Prim.Native.Nat.{◌+◌, ◌/◌}
use native.Mathlib.Omega.{arith}
use lib.IntN.{pos, neg_ℤ, ◌+ℤ◌, ◌-ℤ◌}
use mir.Syntax.{w64}
use mir.ValLaws.{to_z_pos, to_z-of_z}
use Rattle.places.specs.Places.{folded}
use Rattle.places.proofs.Differences.{difference_is, neg_is, plus, minus, fits, difference_fits}
use Rattle.places.proofs.chips_between.Goals as goal

pub fold-requires : goal.fold-requires
fold-requires c =
    let args = c.args in
    let a = args.a in
    let b = args.b in
    let week = args.week in
    let d = pos b -ℤ pos a in
    let known = difference_is a b in
    let half_back = to_z_pos w64 (week / 2) (omega arith) in
    let week-back = to_z_pos w64 week (omega arith) in
    let d-back = to_z-of_z w64 d (difference_fits a b (omega arith) (omega arith)) in
    rw (half_back, week-back, c.difference.ensures, d-back) record { opposite_fits = fits (neg_ℤ (pos (week / 2))) 0 (week / 2) (neg_is (pos (week / 2)) (week / 2) 0 (omega arith)) (omega arith) (omega arith); less_fits = fits (d -ℤ pos week) b (a + week) (minus d b a week known) (omega arith) (omega arith); more_fits = fits (d +ℤ pos week) (b + week) a (plus d b a week known) (omega arith) (omega arith) }

pub returns : goal.returns
returns c =
    let args = c.args in
    let a = args.a in
    let b = args.b in
    let week = args.week in
    let d = pos b -ℤ pos a in
    let half_back = to_z_pos w64 (week / 2) (omega arith) in
    let week-back = to_z_pos w64 week (omega arith) in
    let d-back = to_z-of_z w64 d (difference_fits a b (omega arith) (omega arith)) in
    let folds : c.fold.result ≡ folded week d = rw (half_back, week-back, c.difference.ensures, d-back) at c.fold.ensures in
    to_z-of_z w64 c.fold.result (record { sfits = c.fold.type_inv }) ∙ folds
