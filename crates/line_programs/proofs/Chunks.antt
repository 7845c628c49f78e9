-- A program that reads and answers, chunk after chunk.
--     been_none, been_more        before the first, and one more
--     been_begun                  what of the answers is written where a read failed
--     been_written, been_last     where a write failed, to a chunk or at the input's end
--     begun_read                  what of the answers to the whole input
-- Assumes nothing.
use Rattle.std.proofs.Common.{ℕ, ◌≡◌, ◌≤◌, ◌<◌, ◌+◌, List, [], ◌++◌, length, Option, None, Some, IfSome, inl, inr, arith, sym, ap, subst, ◌∙◌, append-nil, length-append}
use Rattle.std.specs.Io.KnownBytes.{Consumes, IsAtEnd}
use Rattle.std.proofs.KnownBytes.{Consumes-nil, Consumes-trans}
use Rattle.texts.specs.Saying.{rest_of}
use Rattle.line_programs.specs.Dialogs.{Course, Keeps as KeepsAll, says, saying}
use Rattle.line_programs.specs.Talks.{Begins, BeginsRead, Answered}
use Rattle.line_programs.proofs.Dialogs.{says_on, saying_on, answered_none, answered_more, begins_on, begins_of, begins_more}

-- so many chunks were read of an input, or more, and answered: where the dialog stood and stands, the input and the output then and now
abbrev pub Been : {S : Type 0} → Course S → S → S → Option (List ℕ) → Option (List ℕ) → Option (List ℕ) → Option (List ℕ) → ℕ → Type 0
Been c s here input left old now count = (read : List ℕ) × Consumes input left read × (count ≤ length read) × Answered c s here read old now

module _ {S : Type 0} (c : Course S) (keeps : KeepsAll c) where
  pub been_none : (s : S) (input old : Option (List ℕ)) → Been c s s input input old old 0
  been_none s input old = ([], Consumes-nil input, (omega arith), answered_none c keeps s old)

  pub been_more : (s here after : S) (input left next old now new : Option (List ℕ)) (count : ℕ) (chunk : List ℕ) → Been c s here input left old now count
      → Consumes left next chunk → 0 < length chunk → Answered c here after chunk now new → Been c s after input next old new (count + 1)
  been_more s here after input left next old now new count chunk (read, took, long, answered) takes some answers = (
    read ++ chunk,
    Consumes-trans input left next read chunk took takes,
    (omega (arith, length-append read chunk)),
    answered_more c keeps s here after read chunk old now new answered answers,
  )

  pub been_begun : (s here : S) (input left old now : Option (List ℕ)) (count : ℕ) → Been c s here input left old now count
      → IfSome input (λ bytes. Begins old now (saying c s bytes))
  been_begun s here None left old now count been = tt
  been_begun s here (Some bytes) None old now count (read, took, long, (grew, held)) = absurd took
  been_begun s here (Some bytes) (Some left) old now count (read, took, long, (grew, held)) =
      begins_of old now (says c s read) (saying c here left) (saying c s bytes) grew (ap (saying c s) took ∙ saying_on c keeps s here read left held)

  -- a beginning of the answers to one chunk more
  pub been_written : (s here : S) (input left after old now new : Option (List ℕ)) (count : ℕ) (chunk : List ℕ) → Been c s here input left old now count
      → Consumes left after chunk → Begins now new (says c here chunk) → BeginsRead input after old new (says c s) (saying c s)
  been_written s here input left after old now new count chunk (read, took, long, (grew, held)) takes begun = (
    read ++ chunk,
    Consumes-trans input left after read chunk took takes,
    inl (begins_on old now new (says c s read) (says c here chunk) [] _ grew begun
        (says_on c keeps s here read chunk held ∙ ap (λ (l : List ℕ). says c s read ++ l) (sym (append-nil (says c here chunk))))),
  )

  -- of what the input's end brings
  pub been_last : (s here : S) (input left after old now new : Option (List ℕ)) (count : ℕ) → Been c s here input left old now count → Consumes left after []
      → IsAtEnd after → Begins now new (saying c here []) → BeginsRead input after old new (says c s) (saying c s)
  been_last s here input left after old now new count (read, took, long, (grew, held)) takes end begun = (
    read ++ [],
    Consumes-trans input left after read [] took takes,
    inr (
      end,
      begins_on old now new (says c s read) (saying c here []) [] _ grew begun
          (saying_on c keeps s here read [] held ∙ ap (λ (l : List ℕ). says c s read ++ l) (sym (append-nil (saying c here [])))),
    ),
  )

  -- of an input that is known
  pub begun_read : (s : S) (input after old new : Option (List ℕ)) → BeginsRead input after old new (says c s) (saying c s)
      → IfSome input (λ bytes. Begins old new (saying c s bytes))
  begun_read s None after old new begun = tt
  begun_read s (Some bytes) None old new (read, took, begun) = absurd took
  begun_read s (Some bytes) (Some left) old new (read, took, inl begun) =
      begins_more old new (says c s read) (saying c (c.kept (rest_of c.next s read)) left) (saying c s bytes) begun
      (ap (saying c s) took ∙ saying_on c keeps s (c.kept (rest_of c.next s read)) read left (keeps.twice (rest_of c.next s read)))
  begun_read s (Some bytes) (Some left) old new (read, took, inr (end, begun)) =
      subst (λ (l : List ℕ). Begins old new (saying c s l)) (sym (took ∙ ap (λ (l : List ℕ). read ++ l) end ∙ append-nil read)) begun
