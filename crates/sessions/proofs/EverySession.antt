-- EVERY SESSION at the console, and its whole output.
--     every_read       what is said byte by byte to some bytes is the answers to their lines, in order
--     every_input      what is said byte by byte to an input, its end included, is the answers to its lines, in order
--     every_session    the output is the answers to the input's lines, in order, however the input is cut into chunks and however long a line is: what the
--                      promises of `feed` and `finish` say of chunk after chunk, put together
-- Assumes nothing.
use Prim.Native.Nat.{ℕ, suc, ◌≤◌, ◌<◌}
use mathlib.Core.Bool.{Bool, true, false, cond}
use mathlib.Core.List.{List, [], ◌∷◌, ◌++◌, append_assoc, append-nil}
use mathlib.Core.Path.{◌≡◌, refl, sym, ap, subst, ◌∙◌}
use native.Mathlib.Omega.{arith}
use lib.Dec.{leb, eqb}
use lib.ListN.{length, take, length-append}
use lib.Seq.{take_all, take-append-le}
use borrow.Author.Tests.{leb-true, leb-false, eqb-false, ne_eqb}
use Rattle.texts.specs.Saying.{whole}
use Rattle.texts.proofs.Saying.{Plain, plain-take, kept_more}
use Rattle.line_programs.specs.Lines.{ended_from, unended_from, ended}
use Rattle.line_programs.proofs.Lines.{plain_more}
use Rattle.line_programs.proofs.Dialogs as dialogs
use Rattle.std.specs.Prelude.{Option}
use Rattle.machine.specs.declared.Channel.{Channel}
use Rattle.commands.specs.Commands.{command_of}
use Rattle.commands.specs.declared.Command.{Command}
use Rattle.commands.proofs.LongLines.{late}
use Rattle.sessions.specs.Sessions.{answer_of, last_of, nobody, command_in, answers_to, last_line, output, output_so_far, Talk, kept, asked, rest, replies, last_answer, saying, begun, course, EverySession}
use Rattle.sessions.specs.Laws.{keeps}

-- ---- a line of any length

abbrev standing : List ℕ → Option Channel → Talk
standing line last = record { line = line; last = last }

-- the bytes kept of a line and a newline are the command that the whole line is: a longer line than is kept is none, and neither are they
kept_command : (last : Option Channel) (l : List ℕ) → Plain l → asked (standing (kept l) last) ≡ command_in last l
kept_command last l plain = ap (command_of last) (kept_more 1024 l (10 ∷ [])) ∙ by (leb (length l) 1023) refl
  where
    by : (t : Bool) → leb (length l) 1023 ≡ t → command_of last (kept (l ++ (10 ∷ []))) ≡ command_of last (l ++ (10 ∷ []))
    by true e =
        let short : length (l ++ (10 ∷ [])) ≤ 1024 = rw (length-append l (10 ∷ [])) (omega (arith, leb-true (length l) 1023 e)) in
        ap (command_of last) (take_all 1024 (l ++ (10 ∷ [])) short)
    by false e =
        let long : 1023 < length l = leb-false (length l) 1023 e in
        let cut : take 1024 (l ++ (10 ∷ [])) ≡ take 1024 l = take-append-le 1024 l (10 ∷ []) (omega (arith, long)) in
        let begins : take 640 (l ++ (10 ∷ [])) ≡ take 640 l = take-append-le 640 l (10 ∷ []) (omega (arith, long)) in
        late last (kept (l ++ (10 ∷ []))) (subst (λ (m : List ℕ). Plain (take 640 m)) (sym cut) (plain-take 640 (take 1024 l) (plain-take 1024 l plain)))
        ∙ sym (late last (l ++ (10 ∷ [])) (subst Plain (sym begins) (plain-take 640 l plain)))

kept_some : (k a : ℕ) (l : List ℕ) → length (take (suc k) (a ∷ l)) ≡ 0 → ⊥
kept_some k a l e = absurd (omega (arith, e))

-- ---- line after line

-- where a line has begun, the end of the input has it answered
some_left : (help : List ℕ) (t : Talk) → (length t.line ≡ 0 → ⊥) → last_answer help t ≡ answer_of help (asked t)
some_left help t n = rw (ne_eqb (length t.line) 0 n)

module _ (help : List ℕ) where
  last_left : (last : Option Channel) (l : List ℕ) → Plain l → last_answer help (standing (kept l) last) ≡ answers_to help last (last_line l)
  last_left last [] plain = refl
  last_left last (a ∷ l) plain =
      some_left help (standing (kept (a ∷ l)) last) (kept_some 1023 a l)
      ∙ ap (answer_of help) (kept_command last (a ∷ l) plain)
      ∙ sym (append-nil (answer_of help (command_in last (a ∷ l))))

  -- whatever is said at the end, and whatever line is left there to be answered so
  module _ (at_end : Talk → List ℕ) (left : List ℕ → List (List ℕ))
      (is_left : (last : Option Channel) (l : List ℕ) → Plain l → at_end (standing (kept l) last) ≡ answers_to help last (left l)) where
    abbrev said_from : Talk → List ℕ → List ℕ
    said_from t bs = replies help t bs ++ at_end (rest t bs)

    -- the answer to a line, and what is said after it
    answered : (last : Option Channel) (l bs : List ℕ) → Plain l
        → ((later : Option Channel) → said_from (standing [] later) bs ≡ answers_to help later (ended_from [] bs ++ left (unended_from [] bs)))
        → (answer_of help (asked (standing (kept l) last)) ++ replies help (standing [] (last_of last (asked (standing (kept l) last)))) bs)
        ++ at_end (rest (standing [] (last_of last (asked (standing (kept l) last)))) bs)
        ≡ answers_to help last (l ∷ (ended_from [] bs ++ left (unended_from [] bs)))
    answered last l bs plain later =
        let say : Option Command → List ℕ
        = λ c. (answer_of help c ++ replies help (standing [] (last_of last c)) bs) ++ at_end (rest (standing [] (last_of last c)) bs)
        in
        let c = command_in last l in
        let t : Talk = standing [] (last_of last c) in
        ap say (kept_command last l plain)
        ∙ append_assoc (answer_of help c) (replies help t bs) (at_end (rest t bs))
        ∙ ap (λ (x : List ℕ). answer_of help c ++ x) (later (last_of last c))

    from : (last : Option Channel) (l input : List ℕ) → Plain l
        → said_from (standing (kept l) last) input ≡ answers_to help last (ended_from l input ++ left (unended_from l input))
    from last l [] plain = is_left last l plain
    from last l (b ∷ bs) plain =
        by (eqb b 10) refl (λ (later : Option Channel). from later [] bs tt) (λ (more : Plain (l ++ (b ∷ []))). from last (l ++ (b ∷ [])) bs more)
      where
        stands : Bool → Talk
        stands t = cond t (standing [] (last_of last (asked (standing (kept l) last)))) (standing (kept (kept l ++ (b ∷ []))) last)

        by : (t : Bool) → eqb b 10 ≡ t
            → ((later : Option Channel) → said_from (standing [] later) bs ≡ answers_to help later (ended_from [] bs ++ left (unended_from [] bs)))
            → (Plain (l ++ (b ∷ [])) → said_from (standing (kept (l ++ (b ∷ []))) last) bs ≡ answers_to help last (ended_from (l ++ (b ∷ [])) bs ++ left (unended_from (l ++ (b ∷ [])) bs)))
            → (cond t (answer_of help (asked (standing (kept l) last))) [] ++ replies help (stands t) bs) ++ at_end (rest (stands t) bs)
            ≡ answers_to help last (cond t (l ∷ ended_from [] bs) (ended_from (l ++ (b ∷ [])) bs) ++ left (cond t (unended_from [] bs) (unended_from (l ++ (b ∷ [])) bs)))
        by true e later more = answered last l bs plain later
        by false e later more =
            ap (λ (x : List ℕ). said_from (standing x last) bs) (kept_more 1024 l (b ∷ []))
            ∙ more (plain_more l b plain (eqb-false b 10 e))

  -- what a session says that nothing was fed to
  pub every_read : (read : List ℕ) → replies help begun read ≡ output_so_far help read
  every_read read =
      sym (append-nil (replies help begun read))
      ∙ from (λ _. []) (λ _. []) (λ _ _ _. refl) nobody [] read tt
      ∙ ap (answers_to help nobody) (append-nil (ended read))

  pub every_input : (input : List ℕ) → saying help begun input ≡ output help input
  every_input input = from (last_answer help) last_line last_left nobody [] input tt

-- ---- chunk after chunk

pub every_session : EverySession
every_session help chunks = dialogs.any_chunks (course help) (keeps help) begun chunks ∙ every_input help (whole chunks)
