-- From the channel that an accepted open gives, the calls made one after the other are those of the statement.
--     calls_are, memory_is                     the list by the definitions, and the memory after it
--     opens                                    the channel is the opened one
--     replies_told, list_right, memory_right   what `run` promises, once no call is left
-- Assumes nothing.
use Rattle.std.proofs.Common.{◌≡◌, ℕ, List, [], ◌∷◌, refl, sym, ap, ap₂, subst, ◌∙◌, true, append-nil}
use Rattle.machine.specs.Machine.{opened, is_signal, is_prn}
use Rattle.machine.specs.declared.Channel.{Channel}
use Rattle.machine.proofs.Advance.{advance_none}
use Rattle.replies.specs.Reply.{Reply}
use Rattle.call_open.specs.Open.{open_reply, channel}
use Rattle.call_open.proofs.Opens.{open_accepted}
use Rattle.lists.specs.Lists.{Call, reply_to, replies, handed_back, place_after, ListOfCalls}
use Rattle.lists.proofs.EveryList.{every_list}
use Rattle.lists.proofs.OneCall.{none_done, machine_at, Right, call_right}
use Rattle.call_lists.specs.declared.Call as listed_call
use Rattle.call_lists.specs.Memory.{call_of, put_back, memory_past, calls_of, memory_after}
use Rattle.call_lists.specs.Told.{Told}
use Rattle.call_lists.proofs.Walk.{walked, memory_left, memory_then, Along}

module _ (signal prn : ℕ) (signal_ok : is_signal signal ≡ true) (prn_ok : is_prn prn ≡ true) where
  abbrev here : List Call → Channel
  here done = machine_at signal prn (place_after signal done)

  right : (done : List Call) (c : Call) → Right signal prn done c (reply_to (here done) c)
  right done c = call_right signal prn signal_ok prn_ok done c

  memory_there : (done : List Call) (memory : List ℕ) (c : listed_call.Call) → memory_then (here done) memory c ≡ memory_past signal prn done memory c
  memory_there done memory c = ap (λ (l : List (List ℕ)). put_back c l memory) (right done (call_of memory c)).buffers_are

  calls_from : (calls : List listed_call.Call) (done : List Call) (memory : List ℕ) → walked (here done) memory calls ≡ calls_of signal prn done memory calls
  unfolding walked calls_of
  calls_from [] done memory = refl
  calls_from (c ∷ cs) done memory =
      ap (λ (l : List Call). call_of memory c ∷ l)
      (ap₂ (λ (ch : Channel) (m : List ℕ). walked ch m cs) (right done (call_of memory c)).channel_is (memory_there done memory c)
      ∙ calls_from cs (call_of memory c ∷ done) (memory_past signal prn done memory c))

  memory_from : (calls : List listed_call.Call) (done : List Call) (memory : List ℕ)
      → memory_left (here done) memory calls ≡ memory_after signal prn done memory calls
  unfolding memory_left memory_after
  memory_from [] done memory = refl
  memory_from (c ∷ cs) done memory =
      ap₂ (λ (ch : Channel) (m : List ℕ). memory_left ch m cs) (right done (call_of memory c)).channel_is (memory_there done memory c)
      ∙ memory_from cs (call_of memory c ∷ done) (memory_past signal prn done memory c)

  at_zero : opened signal prn ≡ here []
  at_zero = sym (ap (machine_at signal prn) (none_done signal) ∙ advance_none (opened signal prn))

  pub calls_are : (memory : List ℕ) (calls : List listed_call.Call) → walked (opened signal prn) memory calls ≡ calls_of signal prn [] memory calls
  calls_are memory calls = ap (λ (ch : Channel). walked ch memory calls) at_zero ∙ calls_from calls [] memory

  pub memory_is : (memory : List ℕ) (calls : List listed_call.Call) → memory_left (opened signal prn) memory calls ≡ memory_after signal prn [] memory calls
  memory_is memory calls = ap (λ (ch : Channel). memory_left ch memory calls) at_zero ∙ memory_from calls [] memory

module _ (signal prn : ℕ) where
  from_opened : {ch : Channel} → open_reply signal prn ≡ channel ch → ch ≡ opened signal prn
  from_opened {ch} accepted = (open_accepted signal prn ch accepted).2

  pub opens : {ch : Channel} → open_reply signal prn ≡ channel ch → open_reply signal prn ≡ channel (opened signal prn)
  opens accepted = accepted ∙ ap channel (from_opened accepted)

  module _ {A : Type 0} {has_heard : A → List Reply → Type 0} {start here : A} {from ch : Channel} {first memory : List ℕ} {all : List listed_call.Call}
      (accepted : open_reply signal prn ≡ channel from) (done : Along has_heard start here from ch first memory all []) where
    walked_are : walked from first all ≡ calls_of signal prn [] first all
    walked_are =
        let o = open_accepted signal prn from accepted in
        ap (λ (x : Channel). walked x first all) (from_opened accepted) ∙ calls_are signal prn o.0 o.1 first all

    told_whole : done.so_far ≡ replies (opened signal prn) (calls_of signal prn [] first all)
    unfolding walked replies
    told_whole = sym (append-nil done.so_far) ∙ done.whole ∙ ap₂ replies (from_opened accepted) walked_are

    pub replies_told : Told has_heard start here (replies (opened signal prn) (calls_of signal prn [] first all))
    replies_told = subst (Told has_heard start here) told_whole done.told

    back_is : ch ≡ handed_back (opened signal prn) (calls_of signal prn [] first all)
    unfolding walked handed_back
    back_is = done.back ∙ ap₂ handed_back (from_opened accepted) walked_are

    pub list_right : ListOfCalls signal prn ch (replies (opened signal prn) (calls_of signal prn [] first all)) (calls_of signal prn [] first all)
    list_right =
        let calls = calls_of signal prn [] first all in
        subst (λ (x : Channel). ListOfCalls signal prn x (replies (opened signal prn) calls) calls) (sym back_is)
        (every_list signal prn (opened signal prn) (opens accepted) calls)

    pub memory_right : memory ≡ memory_after signal prn [] first all
    unfolding memory_left
    memory_right =
        let o = open_accepted signal prn from accepted in
        done.left ∙ ap (λ (x : Channel). memory_left x first all) (from_opened accepted) ∙ memory_is signal prn o.0 o.1 first all
