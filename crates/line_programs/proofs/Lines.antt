-- An input, cut at its newlines.
--     plain_more        a line with one byte more that is no newline
--     lines_and_back    cut and joined again, and joined and cut again
-- Assumes nothing.
use Prim.Native.Nat.{ℕ}
use mathlib.Core.Bool.{Bool, true, false, cond}
use mathlib.Core.List.{List, [], ◌∷◌, ◌++◌, append_assoc, append-nil}
use mathlib.Core.Path.{◌≡◌, refl, sym, ap, ap₂, ◌∙◌}
use lib.Dec.{eqb}
use borrow.Author.Tests.{eqb-true, eqb-false, ne_eqb}
use Rattle.texts.proofs.Saying.{Plain}
use Rattle.line_programs.specs.Lines.{ended_from, unended_from, ended, unended, joined, AllPlain, LinesAndBack}

pub plain_more : (l : List ℕ) (b : ℕ) → Plain l → (b ≡ 10 → ⊥) → Plain (l ++ (b ∷ []))
plain_more [] b p n = (n, tt)
plain_more (a ∷ l) b p n = (p.0, plain_more l b p.1 n)

joins : (line input : List ℕ) → joined (ended_from line input) (unended_from line input) ≡ line ++ input
joins line [] = sym (append-nil line)
joins line (b ∷ bs) = by (eqb b 10) refl (joins [] bs) (joins (line ++ (b ∷ [])) bs)
  where
    by : (t : Bool) → eqb b 10 ≡ t → joined (ended_from [] bs) (unended_from [] bs) ≡ bs
        → joined (ended_from (line ++ (b ∷ [])) bs) (unended_from (line ++ (b ∷ [])) bs) ≡ (line ++ (b ∷ [])) ++ bs
        → joined (cond t (line ∷ ended_from [] bs) (ended_from (line ++ (b ∷ [])) bs)) (cond t (unended_from [] bs) (unended_from (line ++ (b ∷ [])) bs)) ≡ line ++ (b ∷ bs)
    by true e afresh more = ap₂ (λ (x : ℕ) (y : List ℕ). line ++ (x ∷ y)) (sym (eqb-true b 10 e)) afresh
    by false e afresh more = more ∙ append_assoc line (b ∷ []) bs

plain_from : (line input : List ℕ) → Plain line → AllPlain (ended_from line input) × Plain (unended_from line input)
plain_from line [] plain = (tt, plain)
plain_from line (b ∷ bs) plain =
    by (eqb b 10) refl (plain_from [] bs tt) (λ (more : Plain (line ++ (b ∷ []))). plain_from (line ++ (b ∷ [])) bs more)
  where
    by : (t : Bool) → eqb b 10 ≡ t → AllPlain (ended_from [] bs) × Plain (unended_from [] bs)
        → (Plain (line ++ (b ∷ [])) → AllPlain (ended_from (line ++ (b ∷ [])) bs) × Plain (unended_from (line ++ (b ∷ [])) bs))
        → AllPlain (cond t (line ∷ ended_from [] bs) (ended_from (line ++ (b ∷ [])) bs)) × Plain (cond t (unended_from [] bs) (unended_from (line ++ (b ∷ [])) bs))
    by true e afresh more = ((plain, afresh.0), afresh.1)
    by false e afresh more = more (plain_more line b plain (eqb-false b 10 e))

-- bytes without a newline are the line's
begun : (line bs input : List ℕ) → Plain bs
    → (ended_from line (bs ++ input) ≡ ended_from (line ++ bs) input) × (unended_from line (bs ++ input) ≡ unended_from (line ++ bs) input)
begun line [] input plain =
    (ap (λ (l : List ℕ). ended_from l input) (sym (append-nil line)), ap (λ (l : List ℕ). unended_from l input) (sym (append-nil line)))
begun line (b ∷ bs) input plain =
    let later = begun (line ++ (b ∷ [])) bs input plain.1 in (
      rw (ne_eqb b 10 plain.0) (later.0 ∙ ap (λ (l : List ℕ). ended_from l input) (append_assoc line (b ∷ []) bs)),
      rw (ne_eqb b 10 plain.0) (later.1 ∙ ap (λ (l : List ℕ). unended_from l input) (append_assoc line (b ∷ []) bs)),
    )

-- what a line has, and what follows it
cuts : (lines : List (List ℕ)) (last : List ℕ) → AllPlain lines → Plain last → (ended (joined lines last) ≡ lines) × (unended (joined lines last) ≡ last)
cuts [] last all plain =
    let whole : last ++ [] ≡ last = append-nil last in
    let there = begun [] last [] plain in
    (ap ended (sym whole) ∙ there.0, ap unended (sym whole) ∙ there.1)
cuts (line ∷ lines) last all plain =
    let there = begun [] line (10 ∷ joined lines last) all.0 in
    let later = cuts lines last all.1 plain in
    (there.0 ∙ ap (λ (ls : List (List ℕ)). line ∷ ls) later.0, there.1 ∙ later.1)

pub lines_and_back : LinesAndBack
lines_and_back =
    record {
      joined_again = joins [];
      plain = λ input. plain_from [] input tt;
      cut_again = cuts;
    }
