-- A dialog, byte by byte and chunk by chunk.
--     kept_rest, kept_says, kept_saying     what is kept says as much as all
--     fed_state, fed_said                   the loop over a chunk
--     says_on, saying_on                    what is said to some bytes, and to those behind them
--     answered_none, answered_by, answered_more, begun_more    and where that is written, or a beginning of it
--     any_chunks                            the same is said however the input is cut: what the promises of `feed` and `finish` say of chunk after chunk, put
--                                           together
-- Assumes nothing.
use Prim.Native.Nat.{ℕ, ◌+◌, ◌<◌}
use mathlib.Core.List.{List, [], ◌∷◌, ◌++◌, append_assoc}
use mathlib.Core.Path.{◌≡◌, refl, sym, ap, ap₂, subst, ◌∙◌}
use lib.ListN.{length, take, drop, get_or}
use lib.Seq.{take-append_seam}
use Rattle.texts.specs.Saying.{rest_of, whole}
use Rattle.texts.proofs.Saying.{replies-append, rest-append, replies_more, rest_more}
use Rattle.std.proofs.Common.{Option, None, Some}
use Rattle.std.specs.Io.KnownBytes.{Appends}
use Rattle.std.proofs.KnownBytes.{Appends-nil, Appends-trans, starts_with_rest}
use Rattle.line_programs.specs.Dialogs.{Course, Keeps, stands, says, saying, fed_with}
use Rattle.line_programs.specs.Talks.{Begins, Answered}

-- known output that grew, and then by a beginning of what comes next, grew by a beginning of all
pub begins_on : (old now new : Option (List ℕ)) (done text later all : List ℕ) → Appends old now done → Begins now new text → all ≡ done ++ (text ++ later)
    → Begins old new all
begins_on None now new done text later all grew begun is = tt
begins_on (Some o) None new done text later all grew begun is = absurd grew
begins_on (Some o) (Some n) None done text later all grew begun is = absurd begun
begins_on (Some o) (Some n) (Some m) done text later all grew (written, more, starts) is =
    let left = drop (length written) text in (
      done ++ written,
      more ∙ ap (λ (l : List ℕ). l ++ written) grew ∙ append_assoc o done written,
      ap (take (length (done ++ written)))
          (is
          ∙ ap (λ (l : List ℕ). done ++ l) (ap (λ (l : List ℕ). l ++ later) (starts_with_rest text written starts) ∙ append_assoc written left later)
          ∙ sym (append_assoc done written (left ++ later)))
          ∙ take-append_seam (done ++ written) (left ++ later),
    )

pub begins_of : (old now : Option (List ℕ)) (text later all : List ℕ) → Appends old now text → all ≡ text ++ later → Begins old now all
begins_of None now text later all grew is = tt
begins_of (Some o) None text later all grew is = absurd grew
begins_of (Some o) (Some n) text later all grew is = (text, grew, ap (take (length text)) is ∙ take-append_seam text later)

-- a beginning of a beginning
pub begins_more : (old now : Option (List ℕ)) (text later all : List ℕ) → Begins old now text → all ≡ text ++ later → Begins old now all
begins_more old now text later all begun is = begins_on old old now [] text later all (Appends-nil old) begun is

module _ {S : Type 0} (c : Course S) (keeps : Keeps c) where
  abbrev rest : S → List ℕ → S
  rest s bs = rest_of c.next s bs

  kept_rest : (s : S) (bs : List ℕ) → stands c (c.kept s) bs ≡ stands c s bs
  kept_rest s [] = keeps.twice s
  kept_rest s (b ∷ bs) =
      sym (kept_rest (c.next (c.kept s) b) bs) ∙ ap (λ (t : S). stands c t bs) (keeps.next s b) ∙ kept_rest (c.next s b) bs

  kept_says : (s : S) (bs : List ℕ) → says c (c.kept s) bs ≡ says c s bs
  kept_says s [] = refl
  kept_says s (b ∷ bs) =
      ap₂ (λ (x y : List ℕ). x ++ y) (keeps.said s b)
      (sym (kept_says (c.next (c.kept s) b) bs) ∙ ap (λ (t : S). says c t bs) (keeps.next s b) ∙ kept_says (c.next s b) bs)

  kept_saying : (s : S) (input : List ℕ) → saying c (c.kept s) input ≡ saying c s input
  kept_saying s input =
      ap₂ (λ (x y : List ℕ). x ++ y) (kept_says s input)
      (sym (keeps.last (rest (c.kept s) input)) ∙ ap c.last (kept_rest s input) ∙ keeps.last (rest s input))

  -- what is said to some bytes, and then to those behind them
  saying_more : (s : S) (bytes input : List ℕ) → saying c s (bytes ++ input) ≡ says c s bytes ++ saying c (stands c s bytes) input
  saying_more s bytes input =
      ap₂ (λ (x : List ℕ) (y : S). x ++ c.last y) (replies-append c.next c.said s bytes input) (rest-append c.next s bytes input)
      ∙ append_assoc (says c s bytes) (says c (rest s bytes) input) (c.last (rest (rest s bytes) input))
      ∙ ap (λ (l : List ℕ). says c s bytes ++ l) (sym (kept_saying (rest s bytes) input))

  -- the same of a dialog that stands where the first of them lead, as far as that is kept
  pub says_on : (s here : S) (bytes more : List ℕ) → c.kept here ≡ stands c s bytes → says c s (bytes ++ more) ≡ says c s bytes ++ says c here more
  says_on s here bytes more held =
      replies-append c.next c.said s bytes more
      ∙ ap (λ (l : List ℕ). says c s bytes ++ l)
      (sym (kept_says (rest s bytes) more) ∙ ap (λ (t : S). says c t more) (sym held) ∙ kept_says here more)

  pub saying_on : (s here : S) (bytes more : List ℕ) → c.kept here ≡ stands c s bytes → saying c s (bytes ++ more) ≡ says c s bytes ++ saying c here more
  saying_on s here bytes more held =
      saying_more s bytes more ∙ ap (λ (l : List ℕ). says c s bytes ++ l) (ap (λ (t : S). saying c t more) (sym held) ∙ kept_saying here more)

  pub answered_none : (s : S) (old : Option (List ℕ)) → Answered c s s [] old old
  answered_none s old = (Appends-nil old, refl)

  pub answered_by : (s here : S) (bytes cleared text : List ℕ) (old now : Option (List ℕ)) → cleared ≡ [] → text ≡ cleared ++ says c s bytes → here ≡ stands c s bytes
      → Appends old now text → Answered c s here bytes old now
  answered_by s here bytes cleared text old now empty wrote held grew =
      (subst (Appends old now) (wrote ∙ ap (λ (l : List ℕ). l ++ says c s bytes) empty) grew, ap c.kept held ∙ keeps.twice (rest s bytes))

  pub answered_more : (s here after : S) (bytes more : List ℕ) (old now new : Option (List ℕ)) → Answered c s here bytes old now → Answered c here after more now new
      → Answered c s after (bytes ++ more) old new
  answered_more s here after bytes more old now new (grew, held) (grows, stood) = (
    subst (Appends old new) (sym (says_on s here bytes more held)) (Appends-trans old now new _ _ grew grows),
    stood
        ∙ sym (kept_rest here more)
        ∙ ap (λ (t : S). stands c t more) held
        ∙ kept_rest (rest s bytes) more
        ∙ ap c.kept (sym (rest-append c.next s bytes more)),
  )

  pub begun_more : (s here : S) (bytes more later : List ℕ) (old now new : Option (List ℕ)) → Answered c s here bytes old now → Begins now new (says c here more)
      → Begins old new (says c s (bytes ++ (more ++ later)))
  begun_more s here bytes more later old now new (grew, held) begun =
      begins_on old now new (says c s bytes) (says c here more) (says c (rest here more) later) _ grew begun
      (says_on s here bytes (more ++ later) held ∙ ap (λ (l : List ℕ). says c s bytes ++ l) (replies-append c.next c.said here more later))

  pub any_chunks : (s : S) (chunks : List (List ℕ)) → fed_with c (c.kept s) chunks ≡ saying c s (whole chunks)
  any_chunks s [] = keeps.last s
  any_chunks s (chunk ∷ chunks) =
      ap₂ (λ (x : List ℕ) (y : S). x ++ fed_with c y chunks) (kept_says s chunk) (kept_rest s chunk)
      ∙ ap (λ (l : List ℕ). says c s chunk ++ l) (any_chunks (rest s chunk) chunks ∙ sym (kept_saying (rest s chunk) (whole chunks)))
      ∙ sym (saying_more s chunk (whole chunks))

  -- i bytes of the input are fed, and one more is
  module _ (start here : S) (input : List ℕ) (i : ℕ) (more : i < length input) (held : here ≡ stands c start (take i input)) where
    pub fed_state : (after : S) → after ≡ c.kept (c.next here (get_or input i 0)) → after ≡ stands c start (take (i + 1) input)
    fed_state after is =
        is
        ∙ ap (λ (s : S). c.kept (c.next s (get_or input i 0))) held
        ∙ keeps.next (rest start (take i input)) (get_or input i 0)
        ∙ ap c.kept (sym (rest_more c.next start input i more))

    pub fed_said : (before out after : List ℕ) → out ≡ before ++ says c start (take i input) → after ≡ out ++ c.said here (get_or input i 0)
        → after ≡ before ++ says c start (take (i + 1) input)
    fed_said before out after was is =
        let b = get_or input i 0 in
        let s = rest start (take i input) in
        is
        ∙ ap₂ (λ (x y : List ℕ). x ++ y) was (ap (λ (t : S). c.said t b) held ∙ keeps.said s b)
        ∙ append_assoc before (says c start (take i input)) (c.said s b)
        ∙ ap (λ (l : List ℕ). before ++ l) (sym (replies_more c.next c.said start input i more))
