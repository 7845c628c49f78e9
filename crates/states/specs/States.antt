-- What the tables show of a channel as open gives it, of one that open and seek bring to a place, of P one step on, and of a gap: a cell for every input, by the
-- replies that the promises of the calls cite.
-- Assumes nothing.
use Rattle.std.specs.Prelude.{ℕ, ◌+◌, Bool, true, false, cond, ◌&&◌, List, [], ◌∷◌, eqb, ℤ, Result, Ok, Err}
use Rattle.refusals.specs.Refusal.{number_of}
use Rattle.refusals.specs.declared.Refusal.{Refusal}
use Rattle.machine.specs.Machine.{opened}
use Rattle.machine.specs.declared.Mode.{Mode}
use Rattle.machine.specs.declared.Mode.TheVariants.{Running, Held}
use Rattle.machine.specs.declared.Generator.{Generator}
use Rattle.machine.specs.declared.Channel.{Channel}
use Rattle.replies.specs.Reply.{Reply}
use Rattle.seeks.specs.declared.Sought.{Sought}
use Rattle.call_open.specs.Open.{OpenReply, channel, refusal, open_reply}
use Rattle.call_seek.specs.Seek.{seek_reply}
use Rattle.call_step.specs.Step.{step_reply}
use Rattle.places.specs.Places as places
use Rattle.layout.specs.declared.Coder.{Coder}
use Rattle.layout.specs.declared.Coder.TheVariants as coders
use Rattle.layout.specs.declared.Field.{Field}
use Rattle.layout.specs.declared.Field.TheVariants as fields
use Rattle.pages.specs.declared.values.Value.{Value}
use Rattle.pages.specs.declared.values.Value.TheVariants as values
use Rattle.pages.specs.Cells.{Cell, value, refused}

-- ---- a field of a channel

-- The generator with this name: X1A, X1B, X2A and X2B are P's four in this order, L2 CM and XA are a first generator, and L2 CL is a second one.
abbrev pub generator_of : Channel → Coder → Generator
generator_of ch coders.X1a = ch.first
generator_of ch coders.X1b = ch.second
generator_of ch coders.X2a = ch.third
generator_of ch coders.X2b = ch.fourth
generator_of ch coders.L2Cm = ch.first
generator_of ch coders.L2Cl = ch.second
generator_of ch coders.Xa = ch.first

-- A field of a channel, given the leaps that led there. A chip is numbered from 1 and a phase from 0.
abbrev pub field_of : ℕ → Channel → Field → Value
field_of leaps ch fields.Leaps = values.Count leaps
field_of leaps ch fields.Epoch = values.Count ch.epoch
field_of leaps ch (fields.Register coder) = values.Register ch.signal (generator_of ch coder).register
field_of leaps ch (fields.Chip coder) = values.Chip ((generator_of ch coder).phase + 1)
field_of leaps ch (fields.Phase coder) = values.Count (generator_of ch coder).phase
field_of leaps ch (fields.Cycles coder) = values.Count (generator_of ch coder).cycles
field_of leaps ch (fields.Hold coder) = values.Mode (generator_of ch coder).mode

-- ---- as open gives it

-- the field of the channel that an accepted open gives, to which no leap led
abbrev pub opened_cell : OpenReply → Field → Cell
opened_cell (channel ch) field = value (field_of 0 ch field)
opened_cell (refusal n) field = refused n

-- ---- at a place

-- Where open and seek lead: a channel and the leaps that seek told, or the number of the refusal.
pub data Reached : Type 0 where
  reached : ℕ → Channel → Reached
  unreached : ℕ → Reached

-- what each case of the answer says
abbrev pub of_reached : Result Sought Refusal → Reached
of_reached (Ok s) = reached s.leaps s.channel
of_reached (Err r) = unreached (number_of r)

-- the leaps that an accepted seek told
abbrev pub leaps_told : List ℕ → ℕ
leaps_told [] = 0
leaps_told (leaps ∷ more) = leaps

-- seek's reply: its channel with its leaps, or its refusal
abbrev pub sought : Reply → Reached
sought r = cond (eqb r.refused 0) (reached (leaps_told r.leaps) r.channel) (unreached r.refused)

-- seek, on the channel that open gives; where open refuses, no seek is made
abbrev pub sought_from : OpenReply → ℕ → Reached
sought_from (channel ch) place = sought (seek_reply ch place)
sought_from (refusal n) place = unreached n

unfoldable pub reach_reply : ℕ → ℕ → ℕ → Reached
reach_reply signal prn place = sought_from (open_reply signal prn) place

-- the field of the channel that is reached
abbrev pub reached_cell : Reached → Field → Cell
reached_cell (reached leaps ch) field = value (field_of leaps ch field)
reached_cell (unreached n) field = refused n

-- ---- a step

-- whether two modes are the same
abbrev pub same_mode : Mode → Mode → Bool
same_mode Running Running = true
same_mode (Held h) (Held k) = eqb h k
same_mode Running (Held k) = false
same_mode (Held h) Running = false

abbrev pub same_generator : Generator → Generator → Bool
same_generator a b = eqb a.register b.register && (eqb a.phase b.phase && (eqb a.cycles b.cycles && same_mode a.mode b.mode))

-- whether two channels are the same, field by field
abbrev pub same_channel : Channel → Channel → Bool
same_channel a b =
    eqb a.signal b.signal
    && (eqb a.prn b.prn
    && (eqb a.place b.place
    && (eqb a.epoch b.epoch
    && (eqb a.delay b.delay
    && (same_generator a.first b.first
    && (same_generator a.second b.second
    && (same_generator a.third b.third
    && same_generator a.fourth b.fourth)))))))

-- step's reply: whether its channel is the one that open gives for P of PRN 1, or its refusal
abbrev pub stepped_cell : Reply → Cell
stepped_cell r = cond (eqb r.refused 0) (value (cond (same_channel r.channel (opened 2 1)) values.Opened values.Another)) (refused r.refused)

-- a step from the channel that is reached
abbrev pub step_cell : Reached → Cell
step_cell (reached leaps ch) = stepped_cell (step_reply ch)
step_cell (unreached n) = refused n

-- ---- a gap

-- the chips of a gap, or its refusal
abbrev pub gap_cell : places.Reply ℤ → Cell
gap_cell (places.answer chips) = value (values.Gap chips)
gap_cell (places.refusal n) = refused n
