-- The buffer that Chips leaves is the one that a window of its length leaves, on a channel opened and brought to that place.
-- Assumes nothing.
use mathlib.Core.List.{List, [], ◌∷◌, ◌++◌, append-nil}
use mathlib.Core.Path.{◌≡◌, sym, ap, ◌∙◌}
use Prim.Native.Nat.{ℕ, ◌+◌}
use native.Mathlib.Omega.{arith}
use lib.ListN.{length, drop_of_length-le}
use Rattle.machine.specs.Machine.{opened, advance, chips}
use Rattle.machine.specs.declared.Channel.{Channel}
use Rattle.machine.proofs.Advance.{advance_none}
use Rattle.machine.proofs.Chips.{chips-length}
use Rattle.machine.proofs.RangeLaw.{reached_in}
use Rattle.replies.specs.Reply.{Reply, written}
use Rattle.call_open.proofs.Opens.{open_accepted}
use Rattle.call_seek.specs.Seek.{seek_reply}
use Rattle.call_seek.proofs.Seeks.{seeks_accepted}
use Rattle.call_window.proofs.Windows.{window_accepted}
use Rattle.gps_chips.specs.Chips.{chips_buffer, by_the_machine, AsAWindow}
use Rattle.gps_chips.proofs.Answers.{fits}

-- bytes as many as the buffer has, written to its front, are all of it
written_whole : (bytes buffer : List ℕ) → length bytes ≡ length buffer → written 0 bytes buffer ≡ bytes
written_whole bytes buffer e =
    ap (λ (l : List ℕ). bytes ++ l) (drop_of_length-le buffer {i = 0 + length bytes} (omega (arith, e))) ∙ append-nil bytes

pub as_a_window : (signal prn place : ℕ) (buffer after : List ℕ) → after ≡ chips_buffer by_the_machine signal prn place buffer → AsAWindow signal prn place buffer after
unfolding chips_buffer
as_a_window signal prn place buffer after is ch e within short =
    let o = open_accepted signal prn ch e in
    let there : Channel = advance place (opened signal prn) in
    let sought : (seek_reply ch place).channel ≡ there =
    ap (λ (x : Channel). (seek_reply x place).channel) (o.2 ∙ sym (advance_none (opened signal prn)))
    ∙ ap (λ (r : Reply). r.channel) (seeks_accepted signal prn o.0 o.1 0 place within)
    in
    let none = sym (fits signal prn place (length buffer) (record { is_signal = o.0; is_prn = o.1; within = within; short = short })) in
    rw (sought, is, none)
    (ap (λ (r : Reply). r.buffers) (window_accepted there (length buffer) buffer 0 (reached_in signal prn place o.0 o.1) short (omega arith))
    ∙ ap (λ (l : List ℕ). l ∷ []) (written_whole (chips (length buffer) there) buffer (chips-length (length buffer) there)))
