-- DEMAND 3: "Every list of calls (seeks, steps, windows, refused ones included) from a freshly opened channel leaves the place, every field and all chips that
-- the stepped machine of document 01 has; refusals occur exactly where the papers set them; each accepted seek tells its leaps, by the rule and at most 44."
--     every_list   it holds: `specs/Lists.antt` says what
-- Assumes nothing.
use mathlib.Core.Bool.{true}
use mathlib.Core.List.{List, [], ◌∷◌, ◌++◌, map, flat_map, reverse, reverse_aux, map-append}
use mathlib.Core.Path.{◌≡◌, refl, sym, ap, ap₂, subst, ◌∙◌}
use Prim.Native.Nat.{ℕ, zero, suc, ◌+◌, ◌≤◌}
use native.Mathlib.Nat.{mod-mod}
use native.Mathlib.Omega.{arith}
use lib.ListN.{length, get_or}
use Rattle.machine.specs.Signals.{week_of, places_from}
use Rattle.machine.specs.Machine.{opened, chips, is_signal, is_prn}
use Rattle.machine.specs.declared.Channel.{Channel}
use Rattle.machine.proofs.Tests.{chosen}
use Rattle.machine.proofs.Advance.{advance_none}
use Rattle.machine.proofs.Chips.{chips-length}
use Rattle.week.proofs.LawOfTheWeek.{law_of_the_week}
use Rattle.standard.specs.Standard.{standard}
use Rattle.standard.proofs.EveryChip.{every_window}
use Rattle.seeks.specs.Leaps.{leaps_to}
use Rattle.seeks.proofs.FewLeaps.{at_most_44}
use Rattle.replies.specs.Reply.{Reply}
use Rattle.call_open.proofs.Opens.{open_accepted}
use Rattle.lists.specs.Lists.{Call, reply_to, replies, handed_back, refusal_of, accepted, hands_out, last_sought, handed_out_since, place_after, along}
use Rattle.lists.specs.Lists.{passes, machine_chip, leaves, tells, ListOfCalls, EveryList}
use Rattle.lists.proofs.OneCall.{none_done, machine_at, chips_there, Right, call_right}

-- ---- leaps

-- a list of counts that starts with one more
one_more : (n : ℕ) (counts : List ℕ) → n ≤ 44 → ((i : ℕ) → get_or counts i 0 ≤ 44) → (i : ℕ) → get_or (n ∷ counts) i 0 ≤ 44
one_more n counts h few zero = h
one_more n counts h few (suc i) = few i

few_told : (signal prn : ℕ) (calls : List Call) (i : ℕ) → get_or (flat_map (tells signal prn) calls) i 0 ≤ 44
unfolding flat_map
few_told signal prn [] i = omega arith
few_told signal prn (Call.seek place ∷ cs) i =
    chosen (λ (l : List ℕ). get_or (l ++ flat_map (tells signal prn) cs) i 0 ≤ 44) (accepted signal (Call.seek place))
    (λ t. one_more (leaps_to signal prn place) (flat_map (tells signal prn) cs) (at_most_44 signal prn place) (few_told signal prn cs) i)
    (λ t. few_told signal prn cs i)
few_told signal prn (Call.step ∷ cs) i = few_told signal prn cs i
few_told signal prn (Call.window count buffer at ∷ cs) i = few_told signal prn cs i

-- ---- along a list of calls

module _ (signal : ℕ) where
  along-map : {A B : Type 0} (f : A → B) (g : ℕ → Call → List A) (calls done : List Call)
      → along signal (λ (p : ℕ) (c : Call). map f (g p c)) done calls ≡ map f (along signal g done calls)
  unfolding along
  along-map f g [] done = refl
  along-map f g (c ∷ cs) done =
      ap (λ x. map f (g (place_after signal done) c) ++ x) (along-map f g cs (c ∷ done))
      ∙ sym (map-append f (g (place_after signal done) c) (along signal g (c ∷ done) cs))

  along-flat : {A : Type 0} (g : Call → List A) (calls done : List Call) → along signal (λ (p : ℕ) (c : Call). g c) done calls ≡ flat_map g calls
  unfolding along flat_map
  along-flat g [] done = refl
  along-flat g (c ∷ cs) done = ap (λ x. g c ++ x) (along-flat g cs (c ∷ done))

-- ---- every list, whatever the calls before it

module _ (signal prn : ℕ) (signal_ok : is_signal signal ≡ true) (prn_ok : is_prn prn ≡ true) where
  -- the stepped machine after the calls before
  abbrev here : List Call → Channel
  here done = machine_at signal prn (place_after signal done)

  right : (done : List Call) (c : Call) → Right signal prn done c (reply_to (here done) c)
  right done c = call_right signal prn signal_ok prn_ok done c

  fields_are : (calls done : List Call) → handed_back (here done) calls ≡ here (reverse_aux calls done)
  unfolding handed_back
  fields_are [] done = refl
  fields_are (c ∷ cs) done = ap (λ (ch : Channel). handed_back ch cs) (right done c).channel_is ∙ fields_are cs (c ∷ done)

  -- what the calls give, one after the other, is what their arguments say
  gives_along : {A : Type 0} (f : Reply → List A) (g : ℕ → Call → List A)
      → ((done : List Call) (c : Call) → f (reply_to (here done) c) ≡ g (place_after signal done) c)
      → (calls done : List Call) → flat_map f (replies (here done) calls) ≡ along signal g done calls
  unfolding replies flat_map along
  gives_along f g each [] done = refl
  gives_along f g each (c ∷ cs) done =
      ap₂ (λ x y. x ++ y) (each done c)
      (ap (λ (ch : Channel). flat_map f (replies ch cs)) (right done c).channel_is ∙ gives_along f g each cs (c ∷ done))

  -- and call by call, where the place doesn't matter
  gives_each : {A : Type 0} (f : Reply → A) (g : Call → A) → ((done : List Call) (c : Call) → f (reply_to (here done) c) ≡ g c)
      → (calls done : List Call) → map f (replies (here done) calls) ≡ map g calls
  unfolding replies
  gives_each f g each [] done = refl
  gives_each f g each (c ∷ cs) done =
      ap₂ (λ x y. x ∷ y) (each done c)
      (ap (λ (ch : Channel). map f (replies ch cs)) (right done c).channel_is ∙ gives_each f g each cs (c ∷ done))

  opened_right : (calls : List Call) → ListOfCalls signal prn (handed_back (opened signal prn) calls) (replies (opened signal prn) calls) calls
  opened_right calls =
      let told = gives_along (λ (r : Reply). r.leaps) (λ (p : ℕ) (c : Call). tells signal prn c) (λ done c. (right done c).leaps_are) calls []
      ∙ along-flat signal (tells signal prn) calls [] in
      subst (λ (ch : Channel). ListOfCalls signal prn (handed_back ch calls) (replies ch calls) calls) at_zero
      (record {
        place =
            ap (λ (ch : Channel). ch.place) (fields_are calls [])
            ∙ ap (λ (ch : Channel). ch.place) (law_of_the_week signal prn (place_after signal (reverse calls)))
            ∙ mod-mod (last_sought signal (reverse calls) + handed_out_since signal (reverse calls)) (week_of signal);
        fields = fields_are calls [];
        chips = handed_out (machine_chip signal prn) (chips_there signal prn);
        standards = handed_out (standard signal prn) (every_window signal prn signal_ok prn_ok);
        counts =
            gives_each (λ (r : Reply). length r.chips) (hands_out signal)
            (λ done c. ap length (right done c).chips_are ∙ chips-length (hands_out signal c) (here done))
            calls
            [];
        refusals = gives_each (λ (r : Reply). r.refused) (refusal_of signal) (λ done c. (right done c).refused_is) calls [];
        buffers = gives_along (λ (r : Reply). r.buffers) (leaves signal prn) (λ done c. (right done c).buffers_are) calls [];
        leaps = told;
        few = λ i. subst (λ (l : List ℕ). get_or l i 0 ≤ 44) (sym told) (few_told signal prn calls i);
      })
    where
      -- chips that can be told place by place
      handed_out : (f : ℕ → ℕ) → ((n p : ℕ) → chips n (machine_at signal prn p) ≡ map f (places_from (week_of signal) p n))
          → flat_map (λ (r : Reply). r.chips) (replies (here []) calls) ≡ map f (along signal (passes signal) [] calls)
      handed_out f told =
          gives_along (λ (r : Reply). r.chips) (λ (p : ℕ) (c : Call). map f (passes signal p c))
          (λ done c. (right done c).chips_are ∙ told (hands_out signal c) (place_after signal done))
          calls
          []
          ∙ along-map signal f (passes signal) calls []

      at_zero : here [] ≡ opened signal prn
      at_zero = ap (machine_at signal prn) (none_done signal) ∙ advance_none (opened signal prn)

pub every_list : EveryList
every_list signal prn ch e calls =
    let o = open_accepted signal prn ch e in
    subst (λ (x : Channel). ListOfCalls signal prn (handed_back x calls) (replies x calls) calls) (sym o.2) (opened_right signal prn o.0 o.1 calls)
