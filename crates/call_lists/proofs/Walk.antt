-- A list of calls made one after the other.
--     walked, memory_left     the calls by the definitions, and the memory after them, from any channel
--     Along                   what holds on the way
--     along_start, along_on   it holds at the start, and after one call more
--     along_at_end            at the end no call is left
-- Assumes nothing.
use Rattle.std.proofs.Common.{◌≡◌, ℕ, List, [], ◌∷◌, ◌++◌, refl, sym, ap₂, subst, ◌∙◌, append-nil, append_assoc, ◌+◌, ◌<◌, ◌≤◌, length, get_or, drop, add-one, drop-cons}
use Rattle.std.proofs.Math.ListN.{drop_of_length-le}
use Rattle.machine.specs.declared.Channel.{Channel}
use Rattle.replies.specs.Reply.{Reply}
use Rattle.lists.specs.Lists.{Call, reply_to, replies, handed_back}
use Rattle.call_lists.specs.declared.Call as listed_call
use Rattle.call_lists.specs.Memory.{call_of, put_back}
use Rattle.call_lists.specs.Told.{Told}

-- the memory after one call
abbrev pub memory_then : Channel → List ℕ → listed_call.Call → List ℕ
memory_then ch memory c = put_back c (reply_to ch (call_of memory c)).buffers memory

-- the channel that it hands back
abbrev pub channel_then : Channel → List ℕ → listed_call.Call → Channel
channel_then ch memory c = (reply_to ch (call_of memory c)).channel

unfoldable pub walked : Channel → List ℕ → List listed_call.Call → List Call
walked ch memory [] = []
walked ch memory (c ∷ cs) = call_of memory c ∷ walked (channel_then ch memory c) (memory_then ch memory c) cs

unfoldable pub memory_left : Channel → List ℕ → List listed_call.Call → List ℕ
memory_left ch memory [] = memory
memory_left ch memory (c ∷ cs) = memory_left (channel_then ch memory c) (memory_then ch memory c) cs

-- Of all calls, made from the channel `from` and the memory `first`, the rest is still to be made, from `ch` and `memory`.
pub record Along {A : Type 0} (has_heard : A → List Reply → Type 0) (start here : A) (from ch : Channel) (first memory : List ℕ)
    (all rest : List listed_call.Call) : Type 0 where
  pub back : handed_back ch (walked ch memory rest) ≡ handed_back from (walked from first all)
  pub left : memory_left ch memory rest ≡ memory_left from first all
  pub so_far : List Reply
  pub told : Told has_heard start here so_far
  pub whole : so_far ++ replies ch (walked ch memory rest) ≡ replies from (walked from first all)

module _ {A : Type 0} (has_heard : A → List Reply → Type 0) where
  pub none_told : (a : A) → Told has_heard a a []
  none_told a history heard = subst (has_heard a) (sym (append-nil history)) heard

  pub told_more : (a b c : A) (some more : List Reply) → Told has_heard a b some → Told has_heard b c more → Told has_heard a c (some ++ more)
  told_more a b c some more s m history heard = subst (has_heard c) (append_assoc history some more) (m (history ++ some) (s history heard))

  pub along_start : (a : A) (ch : Channel) (memory : List ℕ) (all : List listed_call.Call) → Along has_heard a a ch ch memory memory all all
  along_start a ch memory all = record { back = refl; left = refl; so_far = []; told = none_told a; whole = refl }

  pub along_on : (start here next : A) (from ch after : Channel) (first memory then : List ℕ) (all : List listed_call.Call) (i : ℕ) (c : listed_call.Call)
      → i < length all
      → Along has_heard start here from ch first memory all (drop i all)
      → after ≡ channel_then ch memory (get_or all i c)
      → Told has_heard here next (reply_to ch (call_of memory (get_or all i c)) ∷ [])
      → then ≡ memory_then ch memory (get_or all i c)
      → Along has_heard start next from after first then all (drop (i + 1) all)
  unfolding walked memory_left replies handed_back
  along_on start here next from ch after first memory then all i none h now back told left =
      let c = get_or all i none in
      let rest = drop (i + 1) all in
      let reply = reply_to ch (call_of memory c) in
      let so : Along has_heard start here from ch first memory all (c ∷ rest) =
      subst (Along has_heard start here from ch first memory all) (rw add-one (drop-cons all i none h)) now
      in
      record {
        back = ap₂ (λ (x : Channel) (m : List ℕ). handed_back x (walked x m rest)) back left ∙ so.back;
        left = ap₂ (λ (x : Channel) (m : List ℕ). memory_left x m rest) back left ∙ so.left;
        so_far = so.so_far ++ (reply ∷ []);
        told = told_more start here next so.so_far (reply ∷ []) so.told told;
        whole =
            ap₂ (λ (x : Channel) (m : List ℕ). (so.so_far ++ (reply ∷ [])) ++ replies x (walked x m rest)) back left
            ∙ append_assoc so.so_far (reply ∷ []) (replies reply.channel (walked reply.channel (memory_then ch memory c) rest))
            ∙ so.whole;
      }

  pub along_at_end : {start here : A} {from ch : Channel} {first memory : List ℕ} {all : List listed_call.Call} {i : ℕ} → length all ≤ i
      → Along has_heard start here from ch first memory all (drop i all) → Along has_heard start here from ch first memory all []
  along_at_end {start} {here} {from} {ch} {first} {memory} {all} {i} h = subst (Along has_heard start here from ch first memory all) (drop_of_length-le all h)
