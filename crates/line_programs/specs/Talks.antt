-- What a program has written of what it is to say, and why it ended before its input did.
-- Assumes nothing.
use Rattle.std.specs.Prelude.{ℕ, ◌≡◌, ◌≤◌, ◌+◌, ◌-◌, ◌^◌, List, ◌++◌, length, Option, None, Some, ⊤, ◌⊎◌}
use Rattle.std.specs.Io.{StartsWith}
use Rattle.std.specs.Io.KnownBytes.{Appends, Consumes, IsAtEnd}
use Rattle.line_programs.specs.declared.Failed.{Failed}
use Rattle.line_programs.specs.Dialogs.{Course, stands, says}

-- a known number rose by one, or an unknown one stays unknown
abbrev pub OneMore : Option ℕ → Option ℕ → Type 0
OneMore None None = ⊤
OneMore None (Some m) = ⊥
OneMore (Some n) None = ⊥
OneMore (Some n) (Some m) = m ≡ n + 1

-- a known number is so high, or higher
abbrev pub AtLeast : ℕ → Option ℕ → Type 0
AtLeast n None = ⊤
AtLeast n (Some m) = n ≤ m

-- a reader or a writer has failed, or signals interrupted it 2 ^ 64 - 1 times, where that is known: no call is made again more often
abbrev pub HasFailed : Type 0 → Option ℕ → Type 0
HasFailed failed interrupted = failed ⊎ AtLeast (2 ^ 64 - 1) interrupted

-- known output grew by a beginning of all that is to be said
abbrev pub Begins : Option (List ℕ) → Option (List ℕ) → List ℕ → Type 0
Begins None new all = ⊤
Begins (Some before) None all = ⊥
Begins (Some before) (Some now) all = (text : List ℕ) × (now ≡ before ++ text) × StartsWith all text

-- some bytes were read, and what is said to these was written
abbrev pub AnswersRead : Option (List ℕ) → Option (List ℕ) → Option (List ℕ) → Option (List ℕ) → (List ℕ → List ℕ) → Type 0
AnswersRead left after old new said = (read : List ℕ) × Consumes left after read × Appends old new (said read)

-- Some bytes were read, and what was written is a beginning of what is said to these. What is said to an input, its end included, was begun only where they were
-- the last.
abbrev pub BeginsRead : Option (List ℕ) → Option (List ℕ) → Option (List ℕ) → Option (List ℕ) → (List ℕ → List ℕ) → (List ℕ → List ℕ) → Type 0
BeginsRead left after old new said saying =
    (read : List ℕ) × Consumes left after read × (Begins old new (said read) ⊎ (IsAtEnd after × Begins old new (saying read)))

-- the input's end is not known, or lies further than a program reads: it makes 2 ^ 64 - 1 reads at most
abbrev pub IsEndless : Option (List ℕ) → Type 0
IsEndless None = ⊤
IsEndless (Some input) = 2 ^ 64 - 1 ≤ length input

-- P, where what is read from is to blame
abbrev pub OnInput : Failed → Type 0 → Type 0
OnInput (Failed.Input e) P = P
OnInput (Failed.Output e) P = ⊤

-- P, where what is written to is
abbrev pub OnOutput : Failed → Type 0 → Type 0
OnOutput (Failed.Input e) P = ⊤
OnOutput (Failed.Output e) P = P

-- a dialog said all that it says to some bytes, and stands where they lead, as far as that is kept
abbrev pub Answered : {S : Type 0} → Course S → S → S → List ℕ → Option (List ℕ) → Option (List ℕ) → Type 0
Answered c from to bytes old new = Appends old new (says c from bytes) × (c.kept to ≡ stands c from bytes)
