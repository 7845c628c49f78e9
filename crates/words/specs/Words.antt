-- Channels as words of text, and how such words are read. Bytes are those of ASCII: 46 is `.`, 47 `/`, 72 `H`, 82 `R`. Behind each word stands a mark: a
-- space, a newline, or one of the two that part the fields of a channel.
-- Assumes nothing.
use Rattle.std.specs.Prelude.{ℕ, ◌≡◌, ◌≤◌, List, [], ◌∷◌, ◌++◌, Some, None, option_map, ◌==◌, if◌then◌else◌}
use Rattle.machine.specs.declared.Mode.{Mode}
use Rattle.machine.specs.declared.Mode.TheVariants as modes
use Rattle.machine.specs.declared.Generator.{Generator}
use Rattle.machine.specs.declared.Channel.{Channel}
use Rattle.numbers.specs.Numbers.{number_word, most32, most64, Read, ◌>>=◌, read_number}

-- ---- words written

-- `R`, running, or `Hn`, held with n
unfoldable pub mode_word : ℕ → Mode → List ℕ
mode_word mark modes.Running = 82 ∷ mark ∷ []
mode_word mark (modes.Held n) = 72 ∷ number_word mark n

-- `REGISTER.PHASE.CYCLES.R` or `REGISTER.PHASE.CYCLES.Hn`
unfoldable pub generator_word : ℕ → Generator → List ℕ
generator_word mark g = number_word 46 g.register ++ (number_word 46 g.phase ++ (number_word 46 g.cycles ++ mode_word mark g.mode))

-- `A/B/C/D`
unfoldable pub generators_word : ℕ → Channel → List ℕ
generators_word mark ch =
    generator_word 47 ch.first ++ (generator_word 47 ch.second ++ (generator_word 47 ch.third ++ generator_word mark ch.fourth))

-- `SIGNAL/PRN/PLACE/EPOCH/DELAY/A/B/C/D`
unfoldable pub channel_word : ℕ → Channel → List ℕ
channel_word mark ch =
    number_word 47 ch.signal
    ++ (number_word 47 ch.prn
    ++ (number_word 47 ch.place ++ (number_word 47 ch.epoch ++ (number_word 47 ch.delay ++ generators_word mark ch))))

-- ---- what the fields hold: numbers of 32 bits, but for place and delay line, which hold 64

abbrev pub ModeFits : Mode → Type 0
ModeFits modes.Running = Unit {0}
ModeFits (modes.Held n) = n ≤ most32

pub record GeneratorFits (g : Generator) : Type 0 where
  pub register : g.register ≤ most32
  pub phase : g.phase ≤ most32
  pub cycles : g.cycles ≤ most32
  pub mode : ModeFits g.mode

pub record ChannelFits (ch : Channel) : Type 0 where
  pub signal : ch.signal ≤ most32
  pub prn : ch.prn ≤ most32
  pub place : ch.place ≤ most64
  pub epoch : ch.epoch ≤ most32
  pub delay : ch.delay ≤ most64
  pub first : GeneratorFits ch.first
  pub second : GeneratorFits ch.second
  pub third : GeneratorFits ch.third
  pub fourth : GeneratorFits ch.fourth

-- ---- words read

abbrev pub read_running : ℕ → List ℕ → Read Mode
read_running mark [] = None
read_running mark (b ∷ bs) = if b == mark then Some (modes.Running, bs) else None

abbrev pub read_held : ℕ → List ℕ → Read Mode
read_held mark text = option_map (λ n. (modes.Held n.0, n.1)) (read_number most32 mark text)

unfoldable pub read_mode : ℕ → List ℕ → Read Mode
read_mode mark [] = None
read_mode mark (b ∷ bs) = if b == 82 then read_running mark bs else if b == 72 then read_held mark bs else None

-- a generator: its parts, each read behind the one before
unfoldable pub read_generator : ℕ → List ℕ → Read Generator
read_generator mark text = do
  register ← read_number most32 46 text
  phase ← read_number most32 46 register.1
  cycles ← read_number most32 46 phase.1
  mode ← read_mode mark cycles.1
  Some (record { register = register.0; phase = phase.0; cycles = cycles.0; mode = mode.0 }, mode.1)

-- a channel: its parts, each read behind the one before
unfoldable pub read_channel : ℕ → List ℕ → Read Channel
read_channel mark text = do
  signal ← read_number most32 47 text
  prn ← read_number most32 47 signal.1
  place ← read_number most64 47 prn.1
  epoch ← read_number most32 47 place.1
  delay ← read_number most64 47 epoch.1
  first ← read_generator 47 delay.1
  second ← read_generator 47 first.1
  third ← read_generator 47 second.1
  fourth ← read_generator mark third.1
  Some (
    record {
      signal = signal.0;
      prn = prn.0;
      place = place.0;
      epoch = epoch.0;
      delay = delay.0;
      first = first.0;
      second = second.0;
      third = third.0;
      fourth = fourth.0;
    },
    fourth.1,
  )

-- where it stands at the front of a text, a channel's word is read as that channel, and what stands behind it is left
abbrev pub IsReadAs : ℕ → Channel → List ℕ → Type 0
IsReadAs mark ch word = (rest : List ℕ) → read_channel mark (word ++ rest) ≡ Some (ch, rest)
