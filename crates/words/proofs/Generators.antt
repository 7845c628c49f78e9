-- Modes and generators as words, written and read.
-- Assumes nothing.
use Prim.Native.Nat.{ℕ, ◌≤◌}
use mathlib.Core.Bool.{Bool, true, false, cond}
use mathlib.Core.List.{List, [], ◌∷◌, ◌++◌, append_assoc}
use mathlib.Core.Path.{◌≡◌, refl, sym, ap, subst, ◌∙◌}
use native.Mathlib.Omega.{arith}
use lib.Dec.{eqb}
use borrow.Author.Tests.{eqb-true, eq-eqb}
use Rattle.std.specs.Prelude.{Option, Some, None, IfSome, option_map}
use Rattle.std.proofs.lemmas.Option.{option_and_then_some}
use Rattle.machine.specs.declared.Mode.{Mode}
use Rattle.machine.specs.declared.Mode.TheVariants as modes
use Rattle.machine.specs.declared.Generator.{Generator}
use Rattle.fields.specs.Fields.{digit}
use Rattle.numbers.specs.Numbers.{Read, ◌>>=◌, most32, number_word, read_number}
use Rattle.words.specs.Words.{mode_word, generator_word, read_running, read_held, read_mode, read_generator, ModeFits, GeneratorFits}
use Rattle.numbers.proofs.Numbers.{number_there, small32, number_back}

-- What is read behind a first word was read behind it: that one stood there.
pub there_first : {A B P : Type 0} (r : Option A) {next : A → Option B} {b : B} → (r >>= next) ≡ Some b → ((a : A) → r ≡ Some a → next a ≡ Some b → P) → P
there_first r {next} {b} e = option_and_then_some next r b e

-- a word and what stands behind it, where a text begins with the word of what was read
abbrev pub IsWord : {A : Type 0} → (A → List ℕ) → List ℕ → A × List ℕ → Type 0
IsWord word text read = text ≡ word read.0 ++ read.1

-- ---- modes

module _ (mark : ℕ) where
  pub mode_there : (m : Mode) (rest : List ℕ) → digit mark ≡ false → ModeFits m → read_mode mark (mode_word mark m ++ rest) ≡ Some (m, rest)
  unfolding read_mode mode_word
  mode_there modes.Running rest no_digit fits = rw (eq-eqb mark mark refl) refl
  mode_there (modes.Held n) rest no_digit fits =
      ap (λ (r : Read ℕ). option_map (λ p. (modes.Held p.0, p.1)) r) (number_there most32 mark no_digit n rest (omega (arith, fits)) fits)

  running_back : (l : List ℕ) → IfSome (read_running mark l) (IsWord (mode_word mark) (82 ∷ l))
  unfolding mode_word
  running_back [] = tt
  running_back (m ∷ l) = by (eqb m mark) refl
    where
      by : (t : Bool) → eqb m mark ≡ t → IfSome (cond t (Some (modes.Running, l)) None) (IsWord (mode_word mark) (82 ∷ m ∷ l))
      by true is = ap (λ (x : ℕ). 82 ∷ x ∷ l) (eqb-true m mark is)
      by false is = tt

  held_back : (l : List ℕ) → IfSome (read_held mark l) (IsWord (mode_word mark) (72 ∷ l))
  unfolding mode_word
  held_back l = by (read_number most32 mark l) refl
    where
      by : (r : Read ℕ) → read_number most32 mark l ≡ r → IfSome (option_map (λ n. (modes.Held n.0, n.1)) r) (IsWord (mode_word mark) (72 ∷ l))
      by None e = tt
      by (Some n) e = ap (λ (t : List ℕ). 72 ∷ t) (number_back most32 mark small32 l n.0 n.1 e)

  all_back : (l : List ℕ) → IfSome (read_mode mark l) (IsWord (mode_word mark) l)
  unfolding read_mode
  all_back [] = tt
  all_back (b ∷ bs) = by (eqb b 82) (eqb b 72) refl refl
    where
      by : (t u : Bool) → eqb b 82 ≡ t → eqb b 72 ≡ u
          → IfSome (cond t (read_running mark bs) (cond u (read_held mark bs) None)) (IsWord (mode_word mark) (b ∷ bs))
      by true u r h = subst (λ (x : ℕ). IfSome (read_running mark bs) (IsWord (mode_word mark) (x ∷ bs))) (sym (eqb-true b 82 r)) (running_back bs)
      by false true r h = subst (λ (x : ℕ). IfSome (read_held mark bs) (IsWord (mode_word mark) (x ∷ bs))) (sym (eqb-true b 72 h)) (held_back bs)
      by false false r h = tt

  pub mode_back : (l : List ℕ) (m : Mode) (rest : List ℕ) → read_mode mark l ≡ Some (m, rest) → l ≡ mode_word mark m ++ rest
  mode_back l m rest e = subst (λ (r : Read Mode). IfSome r (IsWord (mode_word mark) l)) e (all_back l)

-- ---- generators

-- four words, and what stands behind them
pub four : (a b c d rest : List ℕ) → (a ++ (b ++ (c ++ d))) ++ rest ≡ a ++ (b ++ (c ++ (d ++ rest)))
four a b c d rest =
    append_assoc a (b ++ (c ++ d)) rest
    ∙ ap (λ (l : List ℕ). a ++ l) (append_assoc b (c ++ d) rest ∙ ap (λ (l : List ℕ). b ++ l) (append_assoc c d rest))

-- a number read from a word, with what stands behind it
pub number_read : (mark n : ℕ) (rest : List ℕ) → digit mark ≡ false → n ≤ most32 → read_number most32 mark (number_word mark n ++ rest) ≡ Some (n, rest)
number_read mark n rest no_digit fits = number_there most32 mark no_digit n rest (omega (arith, fits)) fits

module _ (mark : ℕ) where
  pub generator_there : (g : Generator) (rest : List ℕ) → digit mark ≡ false → GeneratorFits g → read_generator mark (generator_word mark g ++ rest) ≡ Some (g, rest)
  unfolding read_generator generator_word
  generator_there g rest no_digit fits =
      let m = mode_word mark g.mode ++ rest in
      let c = number_word 46 g.cycles ++ m in
      let p = number_word 46 g.phase ++ c in
      rw (
        four (number_word 46 g.register) (number_word 46 g.phase) (number_word 46 g.cycles) (mode_word mark g.mode) rest,
        number_read 46 g.register p refl fits.register,
        number_read 46 g.phase c refl fits.phase,
        number_read 46 g.cycles m refl fits.cycles,
        mode_there mark g.mode rest no_digit fits.mode,
      )
      refl

  pub generator_back : (l : List ℕ) (g : Generator) (rest : List ℕ) → read_generator mark l ≡ Some (g, rest) → l ≡ generator_word mark g ++ rest
  unfolding read_generator generator_word
  generator_back l g rest e =
      there_first (read_number most32 46 l) e (λ (register : ℕ × List ℕ) is1 e1.
      there_first (read_number most32 46 register.1) e1 (λ (phase : ℕ × List ℕ) is2 e2.
      there_first (read_number most32 46 phase.1) e2 (λ (cycles : ℕ × List ℕ) is3 e3.
      there_first (read_mode mark cycles.1) e3 (λ (mode : Mode × List ℕ) is4 e4.
      let w1 = number_word 46 register.0 in
      let w2 = number_word 46 phase.0 in
      let w3 = number_word 46 cycles.0 in
      let w4 = mode_word mark mode.0 in
      subst (λ (read : Read Generator). IfSome read (IsWord (generator_word mark) l)) e4
      (number_back most32 46 small32 l register.0 register.1 is1
      ∙ ap (λ (t : List ℕ). w1 ++ t) (number_back most32 46 small32 register.1 phase.0 phase.1 is2)
      ∙ ap (λ (t : List ℕ). w1 ++ (w2 ++ t)) (number_back most32 46 small32 phase.1 cycles.0 cycles.1 is3)
      ∙ ap (λ (t : List ℕ). w1 ++ (w2 ++ (w3 ++ t))) (mode_back mark cycles.1 mode.0 mode.1 is4)
      ∙ sym (four w1 w2 w3 w4 mode.1))))))
