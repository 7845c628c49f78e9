-- A line of any length: where no newline stands among the first 640 bytes of a text, it is no command. So as many bytes of a line decide.
--     late    the law
-- Assumes nothing.
use Prim.Native.Nat.{ℕ, zero, suc, ◌+◌, ◌≤◌, ◌<◌}
use mathlib.Core.Bool.{Bool, true, false, cond, ◌&&◌}
use mathlib.Core.List.{List, [], ◌∷◌, ◌++◌, append_assoc}
use mathlib.Core.Path.{◌≡◌, refl, sym, ap, subst, ◌∙◌}
use native.Mathlib.Omega.{arith}
use lib.Dec.{eqb}
use lib.ListN.{length, take, drop, length-append}
use lib.Seq.{take-take, drop_at}
use borrow.Author.Tests.{ne_eqb}
use Rattle.std.specs.Prelude.{Option, Some, None, IfSome, option_map}
use Rattle.std.proofs.lemmas.Option.{none-some}
use Rattle.machine.specs.declared.Mode.{Mode}
use Rattle.machine.specs.declared.Mode.TheVariants as modes
use Rattle.machine.specs.declared.Generator.{Generator}
use Rattle.machine.specs.declared.Channel.{Channel}
use Rattle.fields.specs.Fields.{digit}
use Rattle.texts.proofs.Saying.{Plain, plain-take}
use Rattle.numbers.specs.Numbers.{Read, ◌>>=◌, most64, digits_in, number_word, read_number, unpadded, read_argument}
use Rattle.words.specs.Words.{mode_word, generator_word, generators_word, channel_word, read_channel}
use Rattle.numbers.proofs.Numbers.{digits_short, number_short, small64, number_back}
use Rattle.words.proofs.RoundTrip.{back}
use Rattle.words.proofs.Writing.{channel_short}
use Rattle.commands.specs.LongLines.{LongLines}
use Rattle.commands.specs.Commands.{begins, argument, last_argument, read_named, read_open, read_seek, read_step, read_window, read_chips, read_reading, read_place_of, read_gap, open_word, seek_word, step_word, window_word, chips_word, reading_word, place_of_word, gap_word, command_of}
use Rattle.commands.specs.declared.Command.{Command}
use Rattle.commands.specs.declared.Command.TheVariants as commands

-- ---- bytes without a newline

plain_none : (k : ℕ) → Plain (take k [])
plain_none k = plain-take k [] tt

plain_fewer : (k n : ℕ) (l : List ℕ) → k ≤ n → Plain (take n l) → Plain (take k l)
plain_fewer k n l h p = subst Plain (take-take k n l h) (plain-take k (take n l) p)

plain_behind : (j k n : ℕ) (l : List ℕ) → j + k ≤ n → Plain (take n l) → Plain (take k (drop j l))
plain_behind zero k n l h p = plain_fewer k n l (omega (arith, h)) p
plain_behind (suc j) k zero l h p = absurd (omega (arith, h))
plain_behind (suc j) k (suc n) [] h p = plain_none k
plain_behind (suc j) k (suc n) (b ∷ l) h p = plain_behind j k n l (omega (arith, h)) p.1

newline_there : (x rest : List ℕ) (n : ℕ) → length x < n → Plain (take n (x ++ (10 ∷ rest))) → ⊥
newline_there [] rest zero h p = absurd (omega (arith, h))
newline_there [] rest (suc n) h p = p.0 refl
newline_there (b ∷ x) rest zero h p = absurd (omega (arith, h))
newline_there (b ∷ x) rest (suc n) h p = newline_there x rest n (omega arith) p.1

-- a text that a word begins, and what stands behind the word
behind_word : (word rest l : List ℕ) (most k n : ℕ) → l ≡ word ++ rest → length word ≤ most → most + k ≤ n → Plain (take n l) → Plain (take k rest)
behind_word word rest l most k n is short h p =
    subst (λ (m : List ℕ). Plain (take k m)) (ap (drop (length word)) is ∙ drop_at word rest (length word) refl)
    (plain_behind (length word) k n l (omega (arith, short, h)) p)

-- no word that a newline ends begins such a text
no_word : (x l : List ℕ) (n : ℕ) → length x < n → Plain (take n l) → begins (x ++ (10 ∷ [])) l ≡ false
no_word [] [] n h p = refl
no_word [] (b ∷ l) zero h p = absurd (omega (arith, h))
no_word [] (b ∷ l) (suc n) h p = rw (ne_eqb 10 b (λ e. p.0 (sym e))) refl
no_word (a ∷ x) [] n h p = refl
no_word (a ∷ x) (b ∷ l) zero h p = absurd (omega (arith, h))
no_word (a ∷ x) (b ∷ l) (suc n) h p = by (eqb a b) (no_word x l n (omega arith) p.1)
  where
    by : (t : Bool) → begins (x ++ (10 ∷ [])) l ≡ false → t && begins (x ++ (10 ∷ [])) l ≡ false
    by true e = e
    by false e = refl

-- ---- numbers

-- what is read is one value and one rest
some_rest : {A : Type 0} (a : A) (rest : List ℕ) (p : A × List ℕ) → Some (a, rest) ≡ Some p → rest ≡ p.1
some_rest {A = A} a rest p e = subst (λ (r : Option (A × List ℕ)). IfSome r (λ q. rest ≡ q.1)) e refl

-- where nothing can be read behind a word, nothing is read
none_behind : {A B : Type 0} (r : Option A) (next : A → Option B) → ((a : A) → r ≡ Some a → next a ≡ None) → (r >>= next) ≡ None
none_behind None next none = refl
none_behind (Some a) next none = none a refl

-- what would be read is not there, where it contradicts
not_there : {A : Type 0} (r : Option A) → ((a : A) → r ≡ Some a → ⊥) → r ≡ None
not_there None never = refl
not_there (Some a) never = absurd (never a refl)

module _ (l : List ℕ) (n : ℕ) (plain : Plain (take n l)) where
  behind_number : (mark k : ℕ) → 21 + k ≤ n → (p : ℕ × List ℕ) → read_number most64 mark l ≡ Some p → Plain (take k p.1)
  behind_number mark k h p e = behind_word (number_word mark p.0) p.1 l 21 k n (number_back most64 mark small64 l p.0 p.1 e) (number_short mark p.0) h plain

  no_number : 21 ≤ n → read_number most64 10 l ≡ None
  unfolding number_word
  no_number h =
      not_there (read_number most64 10 l) (λ (p : ℕ × List ℕ) e.
      newline_there (digits_in 20 p.0) p.1 n (omega (arith, digits_short 20 p.0, h))
      (subst (λ (m : List ℕ). Plain (take n m)) (number_back most64 10 small64 l p.0 p.1 e ∙ append_assoc (digits_in 20 p.0) (10 ∷ []) p.1) plain))

-- leading zeros
zeros_are : (k : ℕ) (l : List ℕ) → (j : ℕ) × ((j ≤ k) × (unpadded k l ≡ drop j l))
zeros_are zero l = (0, (omega arith, refl))
zeros_are (suc k) [] = (0, (omega arith, refl))
zeros_are (suc k) (b ∷ []) = (0, (omega arith, refl))
zeros_are (suc k) (b ∷ c ∷ bs) = by (eqb b 48 && digit c) (zeros_are k (c ∷ bs))
  where
    by : (t : Bool) → (j : ℕ) × ((j ≤ k) × (unpadded k (c ∷ bs) ≡ drop j (c ∷ bs)))
        → (j : ℕ) × ((j ≤ suc k) × (cond t (unpadded k (c ∷ bs)) (b ∷ c ∷ bs) ≡ drop j (b ∷ c ∷ bs)))
    by true later = (suc later.0, (omega (arith, later.1.0), later.1.1))
    by false later = (0, (omega arith, refl))

module _ (l : List ℕ) (n : ℕ) (plain : Plain (take n l)) where
  past_zeros : (k : ℕ) → 19 + k ≤ n → Plain (take k (unpadded 19 l))
  past_zeros k h =
      let z = zeros_are 19 l in
      subst (λ (m : List ℕ). Plain (take k m)) (sym z.1.1) (plain_behind z.0 k n l (omega (arith, z.1.0, h)) plain)

  behind_argument : (k : ℕ) → 40 + k ≤ n → (p : ℕ × List ℕ) → argument l ≡ Some p → Plain (take k p.1)
  unfolding read_argument
  behind_argument k h = behind_number (unpadded 19 l) (21 + k) (past_zeros (21 + k) (omega (arith, h))) 32 k (omega arith)

  no_last_argument : 40 ≤ n → last_argument l ≡ None
  unfolding read_argument
  no_last_argument h = no_number (unpadded 19 l) 21 (past_zeros 21 (omega (arith, h))) (omega arith)

-- ---- channels

-- a word that ends in its mark
abbrev Marked : ℕ → List ℕ → Type 0
Marked mark word = (x : List ℕ) × (word ≡ x ++ (mark ∷ []))

behind_it : (mark : ℕ) (first word : List ℕ) → Marked mark word → Marked mark (first ++ word)
behind_it mark first word m = (first ++ m.0, ap (λ (l : List ℕ). first ++ l) m.1 ∙ sym (append_assoc first m.0 (mark ∷ [])))

number_marked : (mark n : ℕ) → Marked mark (number_word mark n)
unfolding number_word
number_marked mark n = (digits_in 20 n, refl)

mode_marked : (mark : ℕ) (m : Mode) → Marked mark (mode_word mark m)
unfolding mode_word
mode_marked mark modes.Running = (82 ∷ [], refl)
mode_marked mark (modes.Held n) = behind_it mark (72 ∷ []) (number_word mark n) (number_marked mark n)

generator_marked : (mark : ℕ) (g : Generator) → Marked mark (generator_word mark g)
unfolding generator_word
generator_marked mark g =
    let mode = mode_word mark g.mode in
    let cycles = number_word 46 g.cycles ++ mode in
    let phase = number_word 46 g.phase ++ cycles in
    behind_it mark (number_word 46 g.register) phase
    (behind_it mark (number_word 46 g.phase) cycles (behind_it mark (number_word 46 g.cycles) mode (mode_marked mark g.mode)))

channel_marked : (mark : ℕ) (ch : Channel) → Marked mark (channel_word mark ch)
unfolding channel_word generators_word
channel_marked mark ch =
    let fourth = generator_word mark ch.fourth in
    let third = generator_word 47 ch.third ++ fourth in
    let second = generator_word 47 ch.second ++ third in
    let first = generator_word 47 ch.first ++ second in
    let delay = number_word 47 ch.delay ++ first in
    let epoch = number_word 47 ch.epoch ++ delay in
    let place = number_word 47 ch.place ++ epoch in
    let prn = number_word 47 ch.prn ++ place in
    behind_it mark (number_word 47 ch.signal) prn
    (behind_it mark (number_word 47 ch.prn) place
    (behind_it mark (number_word 47 ch.place) epoch
    (behind_it mark (number_word 47 ch.epoch) delay
    (behind_it mark (number_word 47 ch.delay) first
    (behind_it mark (generator_word 47 ch.first) second
    (behind_it mark (generator_word 47 ch.second) third
    (behind_it mark (generator_word 47 ch.third) fourth (generator_marked mark ch.fourth))))))))

module _ (l : List ℕ) (n : ℕ) (plain : Plain (take n l)) where
  behind_channel : (k : ℕ) → 445 + k ≤ n → (p : Channel × List ℕ) → read_channel 32 l ≡ Some p → Plain (take k p.1)
  behind_channel k h p e = behind_word (channel_word 32 p.0) p.1 l 445 k n (back 32 l p.0 p.1 e) (channel_short 32 p.0) h plain

  no_channel : 445 ≤ n → read_channel 10 l ≡ None
  no_channel h =
      not_there (read_channel 10 l) (λ (p : Channel × List ℕ) e.
      let m = channel_marked 10 p.0 in
      let long : length (channel_word 10 p.0) ≡ length m.0 + 1 = ap length m.1 ∙ length-append m.0 (10 ∷ []) in
      newline_there m.0 p.1 n (omega (arith, long, channel_short 10 p.0, h))
      (subst (λ (t : List ℕ). Plain (take n t)) (back 10 l p.0 p.1 e ∙ ap (λ (w : List ℕ). w ++ p.1) m.1 ∙ append_assoc m.0 (10 ∷ []) p.1) plain))

-- `.` and its mark, or a channel's word
module _ (last : Option Channel) (l : List ℕ) (n : ℕ) (plain : Plain (take n l)) where
  behind_named : (k : ℕ) → 445 + k ≤ n → (p : Channel × List ℕ) → read_named last 32 l ≡ Some p → Plain (take k p.1)
  unfolding read_named
  behind_named k h p e = by (begins (46 ∷ 32 ∷ []) l) last e
    where
      by : (dot : Bool) (last : Option Channel) → cond dot (option_map (λ ch. (ch, drop 2 l)) last) (read_channel 32 l) ≡ Some p → Plain (take k p.1)
      by true None e = absurd (none-some p e)
      by true (Some ch) e = subst (λ (m : List ℕ). Plain (take k m)) (some_rest ch (drop 2 l) p e) (plain_behind 2 k n l (omega (arith, h)) plain)
      by false last e = behind_channel l n plain k h p e

  no_dot : 2 ≤ n → begins (46 ∷ 10 ∷ []) l ≡ false
  no_dot h = no_word (46 ∷ []) l n (omega (arith, h)) plain

  no_last_named : 445 ≤ n → read_named last 10 l ≡ None
  unfolding read_named
  no_last_named h = rw (no_dot (omega (arith, h))) (no_channel l n plain h)

-- ---- commands, of which the last argument is not there

module _ (l : List ℕ) (n : ℕ) (plain : Plain (take n l)) (long : 600 ≤ n) where
  -- one argument more, and what cannot be read behind it
  one_more : (m : ℕ) (r : List ℕ) (k : ℕ) {B : Type 0} (next : ℕ × List ℕ → Option B) → Plain (take m r) → 40 + k ≤ m
      → ((p : ℕ × List ℕ) → Plain (take k p.1) → next p ≡ None) → (argument r >>= next) ≡ None
  one_more m r k next plain_here h none = none_behind (argument r) next (λ (p : ℕ × List ℕ) e. none p (behind_argument r m plain_here k h p e))

  -- the last one
  no_more : (m : ℕ) (r : List ℕ) {B : Type 0} (next : ℕ × List ℕ → Option B) → Plain (take m r) → 40 ≤ m → (last_argument r >>= next) ≡ None
  no_more m r next plain_here h = ap (λ (p : Read ℕ). p >>= next) (no_last_argument r m plain_here h)

  late_open : read_open l ≡ None
  unfolding read_open
  late_open = one_more n l 40 _ plain (omega (arith, long)) (λ p here. no_more 40 p.1 _ here (omega arith))

  late_reading : read_reading l ≡ None
  unfolding read_reading
  late_reading = one_more n l 40 _ plain (omega (arith, long)) (λ p here. no_more 40 p.1 _ here (omega arith))

  late_place_of : read_place_of l ≡ None
  unfolding read_place_of
  late_place_of =
      one_more n l 80 _ plain (omega (arith, long)) (λ p here.
      one_more 80 p.1 40 _ here (omega arith) (λ q there. no_more 40 q.1 _ there (omega arith)))

  late_gap : read_gap l ≡ None
  unfolding read_gap
  late_gap =
      one_more n l 80 _ plain (omega (arith, long)) (λ p here.
      one_more 80 p.1 40 _ here (omega arith) (λ q there. no_more 40 q.1 _ there (omega arith)))

  late_chips : read_chips l ≡ None
  unfolding read_chips
  late_chips =
      one_more n l 120 _ plain (omega (arith, long)) (λ p here.
      one_more 120 p.1 80 _ here (omega arith) (λ q there.
      one_more 80 q.1 40 _ there (omega arith) (λ r behind. no_more 40 r.1 _ behind (omega arith))))

  module _ (last : Option Channel) where
    -- a channel, and what cannot be read behind it
    channel_more : (k : ℕ) {B : Type 0} (next : Channel × List ℕ → Option B) → 445 + k ≤ n
        → ((p : Channel × List ℕ) → Plain (take k p.1) → next p ≡ None) → (read_named last 32 l >>= next) ≡ None
    channel_more k next h none = none_behind (read_named last 32 l) next (λ (p : Channel × List ℕ) e. none p (behind_named last l n plain k h p e))

    late_seek : read_seek last l ≡ None
    unfolding read_seek
    late_seek = channel_more 40 _ (omega (arith, long)) (λ p here. no_more 40 p.1 _ here (omega arith))

    late_step : read_step last l ≡ None
    unfolding read_step
    late_step = ap (λ (r : Read Channel). r >>= (λ ch. Some (commands.Step ch.0))) (no_last_named last l n plain (omega (arith, long)))

    late_window : read_window last l ≡ None
    unfolding read_window
    late_window =
        channel_more 120 _ (omega (arith, long)) (λ p here.
        one_more 120 p.1 80 _ here (omega arith) (λ q there.
        one_more 80 q.1 40 _ there (omega arith) (λ r behind. no_more 40 r.1 _ behind (omega arith))))

either : (t : Bool) (x y : Option Command) → x ≡ None → y ≡ None → cond t x y ≡ None
either true x y e f = e
either false x y e f = f

pub late : LongLines
unfolding command_of
late last l plain =
    let behind : (j : ℕ) → j + 600 ≤ 640 → Plain (take 600 (drop j l)) = λ (j : ℕ) (h : j + 600 ≤ 640). plain_behind j 600 640 l h plain in
    either (begins open_word l) _ _ (late_open (drop 5 l) 600 (behind 5 (omega arith)) (omega arith))
    (either (begins seek_word l) _ _ (late_seek (drop 5 l) 600 (behind 5 (omega arith)) (omega arith) last)
    (either (begins step_word l) _ _ (late_step (drop 5 l) 600 (behind 5 (omega arith)) (omega arith) last)
    (either (begins window_word l) _ _ (late_window (drop 7 l) 600 (behind 7 (omega arith)) (omega arith) last)
    (either (begins chips_word l) _ _ (late_chips (drop 6 l) 600 (behind 6 (omega arith)) (omega arith))
    (either (begins reading_word l) _ _ (late_reading (drop 8 l) 600 (behind 8 (omega arith)) (omega arith))
    (either (begins place_of_word l) _ _ (late_place_of (drop 8 l) 600 (behind 8 (omega arith)) (omega arith))
    (either (begins gap_word l) _ _ (late_gap (drop 4 l) 600 (behind 4 (omega arith)) (omega arith))
    (ap (λ (t : Bool). cond t (Some commands.Help) None) (no_word (104 ∷ 101 ∷ 108 ∷ 112 ∷ []) l 640 (omega arith) plain)))))))))
