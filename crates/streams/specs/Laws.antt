-- What a stream owes, with the proofs: 56 bytes of a line are enough.
--     other_next, other_said      what a byte does that is no newline
--     kept_reply                  the bytes kept of a line have its reply
--     begun_last                  a line that has begun and lacks its newline is refused
--     keeps, laws                 so what is kept says as much as all
-- Assumes nothing.
use Prim.Native.Nat.{ℕ, ◌<◌}
use mathlib.Core.Bool.{Bool, true, false, cond}
use mathlib.Core.List.{List, [], ◌∷◌, ◌++◌}
use mathlib.Core.Path.{◌≡◌, refl, sym, ap, ◌∙◌}
use native.Mathlib.Omega.{arith}
use lib.Dec.{leb, eqb}
use lib.ListN.{length}
use lib.Seq.{take_all, take-take, length-take-le}
use borrow.Author.Tests.{leb-true, leb-false, ne_eqb}
use Rattle.texts.specs.Texts.{refused_line}
use Rattle.texts.proofs.Saying.{kept_more}
use Rattle.gps_chips.specs.Chips.{by_the_machine}
use Rattle.lines.specs.Lines.{line_reply}
use Rattle.lines.proofs.LineReplies.{long_refused}
use Rattle.line_programs.specs.Dialogs.{Keeps, Laws}
use Rattle.streams.specs.Stream.{next, said, last_reply, kept, course}

-- ---- one byte

module _ (line : List ℕ) (b : ℕ) where
  pub other_next : (b ≡ 10 → ⊥) → next line b ≡ line ++ (b ∷ [])
  other_next n = rw (ne_eqb b 10 n)

  pub other_said : (b ≡ 10 → ⊥) → said line b ≡ []
  other_said n = rw (ne_eqb b 10 n)

-- ---- 56 bytes are enough

-- the bytes kept of a line have its reply: a longer line than they show is refused, and so are they
pub kept_reply : (line : List ℕ) → line_reply by_the_machine (kept line) ≡ line_reply by_the_machine line
kept_reply line = by (leb (length line) 56) refl
  where
    by : (t : Bool) → leb (length line) 56 ≡ t → line_reply by_the_machine (kept line) ≡ line_reply by_the_machine line
    by true e = ap (line_reply by_the_machine) (take_all 56 line (leb-true (length line) 56 e))
    by false e =
        let long : 56 < length line = leb-false (length line) 56 e in
        let cut : length (kept line) ≡ 56 = length-take-le 56 line (omega (arith, long)) in
        long_refused by_the_machine (kept line) (omega (arith, cut)) ∙ sym (long_refused by_the_machine line (omega (arith, long)))

kept_said : (line : List ℕ) (b : ℕ) → said (kept line) b ≡ said line b
kept_said line b = ap (λ (r : List ℕ). cond (eqb b 10) r []) (kept_reply line)

kept_twice : (line : List ℕ) → kept (kept line) ≡ kept line
kept_twice line = take-take 56 56 line (omega arith)

kept_next : (line : List ℕ) (b : ℕ) → kept (next (kept line) b) ≡ kept (next line b)
kept_next line b = by (eqb b 10)
  where
    by : (t : Bool) → kept (cond t [] (kept line ++ (b ∷ []))) ≡ kept (cond t [] (line ++ (b ∷ [])))
    by true = refl
    by false = kept_more 56 line (b ∷ [])

pub kept_last : (line : List ℕ) → last_reply (kept line) ≡ last_reply line
kept_last [] = refl
kept_last (b ∷ bs) = refl

pub keeps : Keeps course
keeps = record { next = kept_next; said = kept_said; last = kept_last; twice = kept_twice }

-- ---- a line, and what is left of one

pub begun_last : (line : List ℕ) → 0 < length line → last_reply line ≡ refused_line 9
begun_last [] some = absurd (omega (arith, some))
begun_last (b ∷ bs) some = refl

pub laws : {M : Type 0} → Laws {M = M} 56 (λ line _. line) course
laws =
    record {
      keeps = keeps;
      short = λ line _ short. take_all 56 line short;
      next = λ line _ b other. ap kept (other_next line b other);
      said = λ line _ b other. other_said line b other;
      last = λ _. refl;
    }
