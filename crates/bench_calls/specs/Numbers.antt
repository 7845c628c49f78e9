-- A channel in plain numbers, to and fro, and what of a reply is told to C in one number.
-- Assumes nothing.
use Rattle.std.specs.Prelude.{ℕ, Bool, true, false, List, [], ◌∷◌}
use Rattle.machine.specs.declared.Mode.{Mode}
use Rattle.machine.specs.declared.Mode.TheVariants.{Running, Held}
use Rattle.machine.specs.declared.Generator.{Generator}
use Rattle.machine.specs.declared.Channel.{Channel}
use Rattle.call_open.specs.Open.{OpenReply, channel, refusal}
use Rattle.bench_calls.specs.declared.GeneratorNumbers.{GeneratorNumbers}
use Rattle.bench_calls.specs.declared.Numbers.{Numbers}

-- ---- numbers as a channel

abbrev pub mode_of : Bool → ℕ → Mode
mode_of false left = Running
mode_of true left = Held left

abbrev pub generator_of : GeneratorNumbers → Generator
generator_of n = record { register = n.register; phase = n.phase; cycles = n.cycles; mode = mode_of n.held n.left }

abbrev pub channel_of : Numbers → Channel
channel_of n =
    record {
      signal = n.signal;
      prn = n.prn;
      place = n.place;
      epoch = n.epoch;
      delay = n.delay;
      first = generator_of n.first;
      second = generator_of n.second;
      third = generator_of n.third;
      fourth = generator_of n.fourth;
    }

-- ---- a channel as numbers

abbrev pub is_held : Mode → Bool
is_held Running = false
is_held (Held left) = true

-- the chips still to repeat, 0 where it runs
abbrev pub left_of : Mode → ℕ
left_of Running = 0
left_of (Held left) = left

abbrev pub numbers_of_generator : Generator → GeneratorNumbers
numbers_of_generator g =
    record { register = g.register; phase = g.phase; cycles = g.cycles; held = is_held g.mode; left = left_of g.mode }

abbrev pub numbers_of : Channel → Numbers
numbers_of ch =
    record {
      signal = ch.signal;
      prn = ch.prn;
      place = ch.place;
      epoch = ch.epoch;
      delay = ch.delay;
      first = numbers_of_generator ch.first;
      second = numbers_of_generator ch.second;
      third = numbers_of_generator ch.third;
      fourth = numbers_of_generator ch.fourth;
    }

-- ---- what is told of a reply

-- the leaps, or the chip, that an accepted call tells; 0 where it is refused
abbrev pub told : List ℕ → ℕ
told [] = 0
told (n ∷ more) = n

-- the opened channel, or the numbers as they came
abbrev pub opened_numbers : OpenReply → Numbers → Numbers
opened_numbers (channel ch) came = numbers_of ch
opened_numbers (refusal n) came = came

abbrev pub opened_refusal : OpenReply → ℕ
opened_refusal (channel ch) = 0
opened_refusal (refusal n) = n
