-- The chips of a register that begins anew at each end of its cycle.
--     in_run   the chips of a run up to the cycle's end
--     at_end   there the phase is 0
-- Assumes nothing.
use Rattle.std.proofs.Common.{◌≡◌, ℕ, ◌+◌, ◌%◌, ◌<◌, sym, ap, ◌∙◌}
use Rattle.std.proofs.Math.Nat.{mod-eq_of_lt, mod_self}
use Rattle.registers.specs.Times.{times}
use Rattle.registers.specs.Register.{shift_l2}
use Rattle.registers.proofs.Repeat.{times-add}
use Rattle.columns.proofs.Sums.{round_on}
use Rattle.turns.specs.Turns.{chip_from}

module _ (start cycle phase at here : ℕ) (stands : here ≡ (phase + at) % cycle) where
  pub in_run : (register j : ℕ) → register ≡ times shift_l2 here start → here + j < cycle → chip_from register j ≡ chip_from start ((phase + (at + j)) % cycle)
  in_run register j is h =
      ap (λ r. times shift_l2 j r % 2) is
      ∙ ap (λ r. r % 2) (sym (times-add shift_l2 here j start))
      ∙ ap (chip_from start) (sym (mod-eq_of_lt h) ∙ round_on phase at j cycle here stands)

  pub at_end : (n : ℕ) → here + n ≡ cycle → 0 ≡ (phase + (at + n)) % cycle
  at_end n ends = sym (mod_self cycle) ∙ ap (λ k. k % cycle) (sym ends) ∙ round_on phase at n cycle here stands
