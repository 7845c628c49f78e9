-- What a session owes, with the proofs.
--     begun_left      a last line that has begun is answered
--     keeps, laws     what is kept says as much as all
-- Assumes nothing.
use Prim.Native.Nat.{ℕ, ◌<◌}
use mathlib.Core.List.{List}
use mathlib.Core.Path.{◌≡◌, refl}
use native.Mathlib.Omega.{arith}
use lib.ListN.{length}
use borrow.Author.Tests.{ne_eqb}
use Rattle.line_programs.specs.Dialogs.{Keeps, Laws}
use Rattle.sessions.specs.declared.Remembered.{Remembered}
use Rattle.sessions.specs.Sessions.{Talk, answer_of, asked, last_answer, talk, course}

module _ (help : List ℕ) where
  pub begun_left : (t : Talk) → 0 < length t.line → last_answer help t ≡ answer_of help (asked t)
  begun_left t some = rw (ne_eqb (length t.line) 0 (λ none. omega (arith, none, some)))

  pub keeps : Keeps (course help)
  keeps = record { next = λ _ _. refl; said = λ _ _. refl; last = λ _. refl; twice = λ _. refl }

  pub laws : Laws 1024 (λ (line : List ℕ) (memory : Remembered). talk line memory.last) (course help)
  laws =
      record {
        keeps = keeps;
        short = λ _ _ _. refl;
        next = λ _ _ b other. rw (ne_eqb b 10 other);
        said = λ _ _ b other. rw (ne_eqb b 10 other);
        last = λ _. refl;
      }
