-- Words put behind what stands there, one behind the other, and how long they are.
-- Assumes nothing.
use Prim.Native.Nat.{ℕ, ◌+◌, ◌≤◌}
use mathlib.Core.List.{List, [], ◌∷◌, ◌++◌, append_assoc}
use mathlib.Core.Path.{◌≡◌, ◌∙◌}
use native.Mathlib.Omega.{arith}
use lib.ListN.{length, length-append}
use Rattle.machine.specs.declared.Mode.{Mode}
use Rattle.machine.specs.declared.Mode.TheVariants as modes
use Rattle.machine.specs.declared.Generator.{Generator}
use Rattle.machine.specs.declared.Channel.{Channel}
use Rattle.numbers.specs.Numbers.{most32, most64, number_word}
use Rattle.numbers.proofs.Numbers.{number_short}
use Rattle.words.specs.Words.{mode_word, generator_word, generators_word, channel_word, ModeFits, GeneratorFits, ChannelFits}

-- ---- words behind what stands there

four_behind : (before w x y z : List ℕ) → (((before ++ w) ++ x) ++ y) ++ z ≡ before ++ (w ++ (x ++ (y ++ z)))
four_behind before w x y z =
    append_assoc ((before ++ w) ++ x) y z ∙ append_assoc (before ++ w) x (y ++ z) ∙ append_assoc before w (x ++ (y ++ z))

module _ (mark : ℕ) (before : List ℕ) where
  pub running_put : (before ++ (82 ∷ [])) ++ (mark ∷ []) ≡ before ++ mode_word mark modes.Running
  unfolding mode_word
  running_put = append_assoc before (82 ∷ []) (mark ∷ [])

  pub held_put : (n : ℕ) → (before ++ (72 ∷ [])) ++ number_word mark n ≡ before ++ mode_word mark (modes.Held n)
  unfolding mode_word
  held_put n = append_assoc before (72 ∷ []) (number_word mark n)

  pub generator_put : (g : Generator)
      → (((before ++ number_word 46 g.register) ++ number_word 46 g.phase) ++ number_word 46 g.cycles) ++ mode_word mark g.mode ≡ before ++ generator_word mark g
  unfolding generator_word
  generator_put g = four_behind before (number_word 46 g.register) (number_word 46 g.phase) (number_word 46 g.cycles) (mode_word mark g.mode)

  pub generators_put : (ch : Channel)
      → (((before ++ generator_word 47 ch.first) ++ generator_word 47 ch.second) ++ generator_word 47 ch.third) ++ generator_word mark ch.fourth
      ≡ before ++ generators_word mark ch
  unfolding generators_word
  generators_put ch = four_behind before (generator_word 47 ch.first) (generator_word 47 ch.second) (generator_word 47 ch.third) (generator_word mark ch.fourth)

  pub channel_put : (ch : Channel)
      → (((((before ++ number_word 47 ch.signal) ++ number_word 47 ch.prn) ++ number_word 47 ch.place) ++ number_word 47 ch.epoch) ++ number_word 47 ch.delay)
      ++ generators_word mark ch
      ≡ before ++ channel_word mark ch
  unfolding channel_word
  channel_put ch =
      let a = number_word 47 ch.signal in
      let b = number_word 47 ch.prn in
      let c = number_word 47 ch.place in
      let d = number_word 47 ch.epoch in
      let e = number_word 47 ch.delay in
      let f = generators_word mark ch in
      append_assoc ((((before ++ a) ++ b) ++ c) ++ d) e f ∙ append_assoc (((before ++ a) ++ b) ++ c) d (e ++ f) ∙ four_behind before a b c (d ++ (e ++ f))

-- ---- how long the words are

pub mode_short : (mark : ℕ) (m : Mode) → length (mode_word mark m) ≤ 22
unfolding mode_word
mode_short mark modes.Running = omega arith
mode_short mark (modes.Held n) = omega (arith, number_short mark n)

-- four words, each with a bound of its length
four_short : (a b c d : List ℕ) (i j k l : ℕ) → length a ≤ i → length b ≤ j → length c ≤ k → length d ≤ l → length (a ++ (b ++ (c ++ d))) ≤ i + (j + (k + l))
four_short a b c d i j k l p q r s = rw (length-append a (b ++ (c ++ d)), length-append b (c ++ d), length-append c d) (omega arith)

pub generator_short : (mark : ℕ) (g : Generator) → length (generator_word mark g) ≤ 85
unfolding generator_word
generator_short mark g =
    four_short (number_word 46 g.register) (number_word 46 g.phase) (number_word 46 g.cycles) (mode_word mark g.mode) 21 21 21 22
    (number_short 46 g.register) (number_short 46 g.phase) (number_short 46 g.cycles) (mode_short mark g.mode)

pub generators_short : (mark : ℕ) (ch : Channel) → length (generators_word mark ch) ≤ 340
unfolding generators_word
generators_short mark ch =
    four_short (generator_word 47 ch.first) (generator_word 47 ch.second) (generator_word 47 ch.third) (generator_word mark ch.fourth) 85 85 85 85
    (generator_short 47 ch.first) (generator_short 47 ch.second) (generator_short 47 ch.third) (generator_short mark ch.fourth)

pub channel_short : (mark : ℕ) (ch : Channel) → length (channel_word mark ch) ≤ 445
unfolding channel_word
channel_short mark ch =
    let a = number_word 47 ch.epoch in
    let b = number_word 47 ch.delay in
    let tail : length (a ++ (b ++ generators_word mark ch)) ≤ 382
    = rw (length-append a (b ++ generators_word mark ch), length-append b (generators_word mark ch))
    (omega (arith, number_short 47 ch.epoch, number_short 47 ch.delay, generators_short mark ch))
    in
    four_short (number_word 47 ch.signal) (number_word 47 ch.prn) (number_word 47 ch.place) (a ++ (b ++ generators_word mark ch)) 21 21 21 382
    (number_short 47 ch.signal) (number_short 47 ch.prn) (number_short 47 ch.place) tail

-- ---- what the fields hold, part by part

pub generator_fits : (g : Generator) → g.register ≤ most32 → g.phase ≤ most32 → g.cycles ≤ most32 → ModeFits g.mode → GeneratorFits g
generator_fits g register phase cycles mode = record { register = register; phase = phase; cycles = cycles; mode = mode }

pub channel_fits : (ch : Channel) → ch.signal ≤ most32 → ch.prn ≤ most32 → ch.place ≤ most64 → ch.epoch ≤ most32 → ch.delay ≤ most64
    → GeneratorFits ch.first × GeneratorFits ch.second × GeneratorFits ch.third × GeneratorFits ch.fourth → ChannelFits ch
channel_fits ch signal prn place epoch delay generators =
    record {
      signal = signal;
      prn = prn;
      place = place;
      epoch = epoch;
      delay = delay;
      first = generators.0;
      second = generators.1;
      third = generators.2;
      fourth = generators.3;
    }
