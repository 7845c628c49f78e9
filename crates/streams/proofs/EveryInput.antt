-- EVERY INPUT of the line program, and its whole output.
--     every_read    what is said byte by byte to some bytes is the replies to their lines, in order
--     every_input   what is said byte by byte to an input, its end included, is its whole output
--     in_order      the output is the replies of the input's lines, in order, and `refused 9` for what follows the last newline, if that has a byte
--     answers_by_the_standards    its chips are the standards'
--     any_chunks    it is the same however the input is cut: what the promises of `feed` and `finish` say of chunk after chunk, put together
-- Assumes nothing.
use Prim.Native.Nat.{ℕ}
use mathlib.Core.Bool.{Bool, true, false, cond}
use mathlib.Core.List.{List, [], ◌∷◌, ◌++◌}
use mathlib.Core.Path.{◌≡◌, refl, ap, ap₂, ◌∙◌}
use lib.Dec.{eqb}
use Rattle.texts.specs.Saying.{whole}
use Rattle.gps_chips.specs.Chips.{by_the_machine, by_the_standards}
use Rattle.lines.specs.Lines.{line_reply}
use Rattle.lines.proofs.ByTheStandards.{reply_by_the_standards}
use Rattle.line_programs.specs.Lines.{ended_from, unended_from, ended, unended}
use Rattle.line_programs.proofs.Lines.{lines_and_back}
use Rattle.line_programs.proofs.Dialogs as dialogs
use Rattle.streams.specs.Stream.{replies_to, answers, answers_so_far, rest, replies, last_reply, saying, course, InOrder, AnyChunks, ByTheStandards}
use Rattle.streams.specs.Laws.{keeps}

-- ---- byte by byte

replies_from : (line bs : List ℕ) → replies line bs ≡ replies_to by_the_machine (ended_from line bs)
replies_from line [] = refl
replies_from line (b ∷ bs) = by (eqb b 10) (replies_from [] bs) (replies_from (line ++ (b ∷ [])) bs)
  where
    by : (t : Bool) → replies [] bs ≡ replies_to by_the_machine (ended_from [] bs) → replies (line ++ (b ∷ [])) bs ≡ replies_to by_the_machine (ended_from (line ++ (b ∷ [])) bs)
        → cond t (line_reply by_the_machine line) [] ++ replies (cond t [] (line ++ (b ∷ []))) bs ≡ replies_to by_the_machine (cond t (line ∷ ended_from [] bs) (ended_from (line ++ (b ∷ [])) bs))
    by true afresh more = ap (λ (l : List ℕ). line_reply by_the_machine line ++ l) afresh
    by false afresh more = more

rest_from : (line bs : List ℕ) → rest line bs ≡ unended_from line bs
rest_from line [] = refl
rest_from line (b ∷ bs) = by (eqb b 10) (rest_from [] bs) (rest_from (line ++ (b ∷ [])) bs)
  where
    by : (t : Bool) → rest [] bs ≡ unended_from [] bs → rest (line ++ (b ∷ [])) bs ≡ unended_from (line ++ (b ∷ [])) bs
        → rest (cond t [] (line ++ (b ∷ []))) bs ≡ cond t (unended_from [] bs) (unended_from (line ++ (b ∷ [])) bs)
    by true afresh more = afresh
    by false afresh more = more

pub every_read : (read : List ℕ) → replies [] read ≡ answers_so_far by_the_machine read
every_read read = replies_from [] read

pub every_input : (input : List ℕ) → saying [] input ≡ answers by_the_machine input
every_input input = ap₂ (λ (x y : List ℕ). x ++ last_reply y) (replies_from [] input) (rest_from [] input)

-- ---- line after line

pub in_order : InOrder
in_order chips_from lines last all plain =
    let cut = lines_and_back.cut_again lines last all plain in
    ap₂ (λ (ls : List (List ℕ)) (l : List ℕ). replies_to chips_from ls ++ last_reply l) cut.0 cut.1

-- ---- by the standards

replies_by_the_standards : (lines : List (List ℕ)) → replies_to by_the_machine lines ≡ replies_to by_the_standards lines
replies_by_the_standards [] = refl
replies_by_the_standards (line ∷ lines) = ap₂ (λ (x y : List ℕ). x ++ y) (reply_by_the_standards line) (replies_by_the_standards lines)

pub answers_by_the_standards : ByTheStandards
answers_by_the_standards input = ap (λ (l : List ℕ). l ++ last_reply (unended input)) (replies_by_the_standards (ended input))

-- ---- chunk after chunk

pub any_chunks : AnyChunks
any_chunks chunks = dialogs.any_chunks course keeps [] chunks ∙ every_input (whole chunks)
