-- A part of the memory, written and put back.
-- Assumes nothing.
use Rattle.std.proofs.Common.{arith, ◌≡◌, ◌≤◌, ℕ, ◌+◌, ◌-◌, Bool, true, false, List, [], ◌++◌, cond, length, take, drop, refl, sym, ap, ap₂, ◌∙◌, length-take, length-drop, drop-drop}
use Rattle.std.proofs.lemmas.Bool.{leb-true}
use Rattle.std.proofs.lemmas.List.{nil_from_length, take-append-drop}
use borrow.Rule.Slice.PartMut.{post_of}
use Rattle.replies.specs.Reply.{written}
use Rattle.call_lists.specs.declared.Part.{Part}
use Rattle.call_lists.specs.Memory.{lies_in}

module _ (part : Part) (memory after : List ℕ) (start end : ℕ) (long : length after ≡ length (take (end - start) (drop start memory))) where
  -- nothing is written in front of a place, where nothing is to be written
  unwritten : (at : ℕ) → memory ≡ written at [] memory
  unwritten at = sym (take-append-drop at memory) ∙ ap (λ (n : ℕ). take at memory ++ drop n memory) (omega arith)

  put_in : (b : Bool) → lies_in (length memory) part ≡ b → start ≡ cond b part.start 0 → end ≡ cond b (part.start + part.len) 0
      → take start memory ++ (after ++ post_of start (end - start) memory) ≡ written part.start after memory
  put_in true lies begins ends =
      let within : part.start + part.len ≤ length memory = leb-true (part.start + part.len) (length memory) lies in
      let bytes : length after ≡ end - start = omega (arith, long, length-take (end - start) (drop start memory), length-drop start memory, within, begins, ends) in
      ap₂ (λ (front behind : List ℕ). front ++ (after ++ behind)) (ap (λ (n : ℕ). take n memory) begins)
      (drop-drop (end - start) start memory ∙ ap (λ (n : ℕ). drop n memory) (omega (arith, bytes, begins)))
  put_in false lies begins ends =
      let none : after ≡ [] = nil_from_length after (omega (arith, long, length-take (end - start) (drop start memory), begins, ends)) in
      let no_bytes : end - start ≡ 0 = omega (arith, begins, ends) in
      ap₂ (λ (n : ℕ) (l : List ℕ). take n memory ++ (l ++ drop (end - start) (drop start memory))) begins none
      ∙ ap₂ (λ (k n : ℕ). drop k (drop n memory)) no_bytes begins
      ∙ unwritten part.start
      ∙ ap (λ (l : List ℕ). written part.start l memory) (sym none)

  -- the memory after its part, from `start` to `end`, has become other bytes
  pub put_part : start ≡ cond (lies_in (length memory) part) part.start 0 → end ≡ cond (lies_in (length memory) part) (part.start + part.len) 0
      → take start memory ++ (after ++ post_of start (end - start) memory) ≡ written part.start after memory
  put_part begins ends = put_in (lies_in (length memory) part) refl begins ends
