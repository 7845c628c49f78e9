-- The answer of a window.
--     window_fits                      an accepted one has room
--     window_of                        it looks at the length of its buffer alone: no answer shows a byte that the call has not written
--     window_text, window_dot          so the answer of one on the first bytes of a longer buffer is that of a buffer of so many zeros
-- Assumes nothing.
use Rattle.std.proofs.Common.{ℕ, ◌+◌, ◌++◌, ◌≤◌, ◌≡◌, refl, sym, ap, subst, ◌∙◌, arith, Bool, true, false, cond, List, length, take, replicate, Option, None}
use Rattle.std.proofs.lemmas.List.{length-take-le, length-replicate}
use lib.Dec.{leb, ltb, eqb}
use borrow.Author.Tests.{leb-true, ltb-false, le-leb}
use Rattle.machine.specs.Machine.{in_range, advance, chips}
use Rattle.machine.specs.declared.Channel.{Channel}
use Rattle.replies.specs.Reply.{Reply, written}
use Rattle.call_window.specs.Window.{most_chips, written_with, unwritten_with, window_reply}
use Rattle.texts.specs.Texts.{refused_line}
use Rattle.words.specs.Words.{channel_word}
use Rattle.answer_lines.specs.Lines.{ok, chips_word, most_length, handed_back}
use Rattle.channel_answers.specs.ChannelAnswers.{window_line, buffer, window_answered, window_last}

module _ (ch : Channel) (count at : ℕ) where
  -- the reply by the tests of its refusals
  abbrev by_tests : List ℕ → Bool → Bool → Bool → Reply
  by_tests b ranged few room =
      cond ranged
      (cond few
      (cond room (written_with (chips count ch) (written at (chips count ch) b) (advance count ch)) (unwritten_with 6 b ch))
      (unwritten_with 5 b ch))
      (unwritten_with 4 b ch)

  pub window_fits : (b cs after : List ℕ) (next : Channel) → written_with cs after next ≡ window_reply ch count b at → (count ≤ most_chips) × (at + count ≤ length b)
  unfolding window_reply
  window_fits b cs after next e = by (in_range ch) (leb count most_chips) (leb (at + count) (length b)) refl refl (sym (ap (λ (r : Reply). r.refused) e))
    where
      by : (t u v : Bool) → leb count most_chips ≡ u → leb (at + count) (length b) ≡ v → (by_tests b t u v).refused ≡ 0 → (count ≤ most_chips) × (at + count ≤ length b)
      by true true true few room none = (leb-true count most_chips few, leb-true (at + count) (length b) room)
      by true true false few room none = absurd (omega (arith, none))
      by true false v few room none = absurd (omega (arith, none))
      by false u v few room none = absurd (omega (arith, none))

  -- two replies with the same answer
  record Alike (p q : Reply) : Type 0 where
    refused : p.refused ≡ q.refused
    chips : p.chips ≡ q.chips
    channel : p.channel ≡ q.channel

  alike : (b c : List ℕ) → length b ≡ length c → Alike (window_reply ch count b at) (window_reply ch count c at)
  unfolding window_reply
  alike b c e =
      subst (λ (n : ℕ). Alike (by_tests b (in_range ch) (leb count most_chips) (leb (at + count) n)) (window_reply ch count c at)) (sym e)
      (by (in_range ch) (leb count most_chips) (leb (at + count) (length c)))
    where
      by : (t u v : Bool) → Alike (by_tests b t u v) (by_tests c t u v)
      by true true true = record { refused = refl; chips = refl; channel = refl }
      by true true false = record { refused = refl; chips = refl; channel = refl }
      by true false v = record { refused = refl; chips = refl; channel = refl }
      by false u v = record { refused = refl; chips = refl; channel = refl }

  alike_line : (p q : Reply) → Alike p q → window_line p ≡ window_line q
  alike_line p q a = λ j. cond (eqb (a.refused j) 0) (ok (channel_word 32 (a.channel j) ++ chips_word (a.chips j))) (refused_line (a.refused j))

  pub window_of : (bytes : ℕ) (b : List ℕ) (last : Option Channel) → bytes ≤ most_length → bytes ≡ length b
      → (window_line (window_reply ch count b at) ≡ window_answered ch count bytes at)
      × (handed_back last (window_reply ch count b at).channel ≡ window_last last ch count bytes at)
  window_of bytes b last few long =
      let same = alike b (buffer bytes) (sym long ∙ sym (length-replicate bytes 0)) in
      rw (le-leb bytes most_length few)
      (alike_line (window_reply ch count b at) (window_reply ch count (buffer bytes) at) same, ap (handed_back last) same.channel)

  -- of the first bytes of a longer one
  module _ (bytes : ℕ) (lent : List ℕ) (few : ltb most_length bytes ≡ false) (room : most_length ≤ length lent) where
    fits : bytes ≤ most_length
    fits = ltb-false most_length bytes few

    long : bytes ≡ length (take bytes lent)
    long = sym (length-take-le bytes lent (omega (arith, fits, room)))

    pub window_text : window_line (window_reply ch count (take bytes lent) at) ≡ window_answered ch count bytes at
    window_text = (window_of bytes (take bytes lent) None fits long).0

    pub window_dot : (last : Option Channel) → handed_back last (window_reply ch count (take bytes lent) at).channel ≡ window_last last ch count bytes at
    window_dot last = (window_of bytes (take bytes lent) last fits long).1
