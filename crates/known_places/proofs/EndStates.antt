-- The registers at the end of a cycle: each is leapt to, which computes.
-- Assumes nothing.
use mathlib.Core.Path.{◌≡◌}
use Prim.Native.Nat.{ℕ, ◌-◌}
use native.Mathlib.Omega.{arith}
use lib.Dec.{lit<}
use lib.ListN.{get_or}
use Rattle.registers.specs.Times.{times}
use Rattle.registers.specs.Register.{stage, sum_of, shift, shift_x1a, shift_x1b, shift_x2a, shift_x2b, shift_l2}
use Rattle.registers.specs.Row.{combine}
use Rattle.registers.proofs.Linear.{columns}
use Rattle.registers.proofs.Shifts.{x1a, x1b, x2a, x2b, l2}
use Rattle.leaps.specs.Leaps.{leap_if, leaps}
use Rattle.leaps.proofs.Grown.{grown, by_leaps, reaches, reached}
use Rattle.starts.specs.Starts.{start_x1a, start_x1b, start_x2a, start_x2b}
use Rattle.starts.specs.Starts.{Listed, entry_of, starts_cm, starts_cl, start_cm, start_cl}
use Rattle.known_places.specs.EndStates.{ends_cm, ends_cl, EndStates}

end_cm : (prn : ℕ) → Listed 37 prn → times shift_l2 10229 (start_cm prn) ≡ entry_of ends_cm prn
unfolding start_cm starts_cm ends_cm reaches grown columns shift_l2 combine leaps leap_if
end_cm prn h = reached l2 20 (λ k. 10229) (λ k. get_or starts_cm k 0) (λ k. get_or ends_cm k 0) 37 tt (prn - 1) (omega arith)

end_cl : (prn : ℕ) → Listed 37 prn → times shift_l2 767249 (start_cl prn) ≡ entry_of ends_cl prn
unfolding start_cl starts_cl ends_cl reaches grown columns shift_l2 combine leaps leap_if
end_cl prn h = reached l2 20 (λ k. 767249) (λ k. get_or starts_cl k 0) (λ k. get_or ends_cl k 0) 37 tt (prn - 1) (omega arith)

end_x1a : (times shift_x1a 4090 start_x1a ≡ 0b100010010010) × (times shift_x1a 4091 start_x1a ≡ 0b000100100100)
unfolding grown columns shift sum_of stage combine leaps leap_if
end_x1a = (by_leaps x1a 12 4090 start_x1a (lit< tt) (lit< tt), by_leaps x1a 12 4091 start_x1a (lit< tt) (lit< tt))

end_x1b : (times shift_x1b 4091 start_x1b ≡ 0b100101010101) × (times shift_x1b 4092 start_x1b ≡ 0b001010101010)
unfolding grown columns shift sum_of stage combine leaps leap_if
end_x1b = (by_leaps x1b 12 4091 start_x1b (lit< tt) (lit< tt), by_leaps x1b 12 4092 start_x1b (lit< tt) (lit< tt))

end_x2a : (times shift_x2a 4090 start_x2a ≡ 0b111001001001) × (times shift_x2a 4091 start_x2a ≡ 0b110010010010)
unfolding grown columns shift sum_of stage combine leaps leap_if
end_x2a = (by_leaps x2a 12 4090 start_x2a (lit< tt) (lit< tt), by_leaps x2a 12 4091 start_x2a (lit< tt) (lit< tt))

end_x2b : (times shift_x2b 4091 start_x2b ≡ 0b000101010101) × (times shift_x2b 4092 start_x2b ≡ 0b001010101010)
unfolding grown columns shift sum_of stage combine leaps leap_if
end_x2b = (by_leaps x2b 12 4091 start_x2b (lit< tt) (lit< tt), by_leaps x2b 12 4092 start_x2b (lit< tt) (lit< tt))

pub end_states : EndStates
end_states = record { cm = end_cm; cl = end_cl; x1a = end_x1a; x1b = end_x1b; x2a = end_x2a; x2b = end_x2b }
