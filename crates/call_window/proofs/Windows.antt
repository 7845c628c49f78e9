-- What a window answers, case by case.
--     window_out_of_range, window_too_many, window_no_room   4, 5 and 6, each where those before it don't apply
--     window_accepted                                        all else
--     cases, by_the_standards                                those cases, and that the chips are the standards', of whatever is that reply
-- Assumes nothing.
use mathlib.Core.Bool.{true, false}
use mathlib.Core.List.{List}
use mathlib.Core.Path.{◌≡◌, sym, ap, ap₂, ◌∙◌}
use Prim.Native.Nat.{ℕ, ◌+◌, ◌%◌, ◌≤◌, ◌<◌}
use lib.ListN.{length}
use borrow.Author.Tests.{le-leb, lt-leb}
use Rattle.machine.specs.Signals.{week_of}
use Rattle.machine.specs.Machine.{opened, advance, chips, in_range}
use Rattle.machine.specs.declared.Channel.{Channel}
use Rattle.machine.proofs.Advance.{advance-add}
use Rattle.machine.proofs.RangeLaw.{reached_in}
use Rattle.week.proofs.LawOfTheWeek.{law_of_the_week, weeks_pass}
use Rattle.standard.proofs.EveryChip.{every_window}
use Rattle.replies.specs.Reply.{Reply, written}
use Rattle.call_window.specs.Window.{most_chips, written_with, unwritten_with, window_reply, Cases, standard_chips, ByTheStandards}

module _ (ch : Channel) (count : ℕ) (buffer : List ℕ) (at : ℕ) where
  pub window_out_of_range : in_range ch ≡ false → window_reply ch count buffer at ≡ unwritten_with 4 buffer ch
  unfolding window_reply
  window_out_of_range out = simp out

  pub window_too_many : in_range ch ≡ true → most_chips < count → window_reply ch count buffer at ≡ unwritten_with 5 buffer ch
  unfolding window_reply
  window_too_many ranged many = simp (ranged, lt-leb count most_chips many)

  pub window_no_room : in_range ch ≡ true → count ≤ most_chips → length buffer < at + count → window_reply ch count buffer at ≡ unwritten_with 6 buffer ch
  unfolding window_reply
  window_no_room ranged few short = simp (ranged, le-leb count most_chips few, lt-leb (at + count) (length buffer) short)

  pub window_accepted : in_range ch ≡ true → count ≤ most_chips → at + count ≤ length buffer
      → window_reply ch count buffer at ≡ written_with (chips count ch) (written at (chips count ch) buffer) (advance count ch)
  unfolding window_reply
  window_accepted ranged few room = simp (ranged, le-leb count most_chips few, le-leb (at + count) (length buffer) room)

  module _ (reply : Reply) (is : reply ≡ window_reply ch count buffer at) where
    pub cases : Cases ch count buffer at reply
    cases =
        record {
          out_of_range = λ out. is ∙ window_out_of_range out;
          too_many = λ ranged many. is ∙ window_too_many ranged many;
          no_room = λ ranged few short. is ∙ window_no_room ranged few short;
          accepted = λ ranged few room. is ∙ window_accepted ranged few room;
        }

    pub by_the_standards : ByTheStandards ch count buffer at reply
    by_the_standards signal prn n signal_ok prn_ok there few room =
        let place : ch.place ≡ n % week_of signal = ap (λ (x : Channel). x.place) (there ∙ law_of_the_week signal prn n) in
        let chips_there : chips count ch ≡ standard_chips signal prn ch.place count =
        ap (chips count) (there ∙ weeks_pass signal prn n ∙ ap (λ (p : ℕ). advance p (opened signal prn)) (sym place))
        ∙ every_window signal prn signal_ok prn_ok count ch.place
        in
        let moved : advance count ch ≡ advance (n + count) (opened signal prn) = ap (advance count) there ∙ sym (advance-add n count (opened signal prn)) in
        is
        ∙ window_accepted (ap in_range there ∙ reached_in signal prn n signal_ok prn_ok) few room
        ∙ ap₂ (λ (l : List ℕ) (next : Channel). written_with l (written at l buffer) next) chips_there moved
