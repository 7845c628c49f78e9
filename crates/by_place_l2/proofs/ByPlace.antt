-- The standards' chips of L2 CM and L2 CL, from a place on, are those of the register round its cycle.
-- Assumes nothing.
use Rattle.std.proofs.Common.{◌≡◌, ℕ, ◌+◌, ◌%◌, ◌^◌, ◌<◌, List, map, arith, sym, ap₂, ◌∙◌, subst}
use Rattle.columns.specs.Rows.{row}
use Rattle.columns.proofs.Places.{placed}
use Rattle.columns.proofs.Rows.{row_same}
use Rattle.starts.specs.Starts.{start_cm, start_cl}
use Rattle.starts.proofs.Ranges.{start_cm_in, start_cl_in}
use Rattle.machine.specs.Signals.{week_l2, places_from}
use Rattle.standard.specs.Standard.{standard}
use Rattle.standard.specs.Tables.{of_prn, states_cm, states_cl}
use Rattle.standard.proofs.SameRegisters.{l2_chip, same_registers}
use Rattle.turns.specs.Turns.{chip_from}

pub cm_in : (prn r : ℕ) → r ≡ start_cm prn → r < 2 ^ 27
cm_in prn r e = subst (λ x. x < 2 ^ 27) (sym e) (start_cm_in prn)

pub cl_in : (prn r : ℕ) → r ≡ start_cl prn → r < 2 ^ 27
cl_in prn r e = subst (λ x. x < 2 ^ 27) (sym e) (start_cl_in prn)

pub cm_placed : (prn r place n : ℕ) (out : List ℕ) → r ≡ start_cm prn → out ≡ row (λ j. chip_from r ((place % 10230 + j) % 10230)) n
    → out ≡ map (standard 3 prn) (places_from week_l2 place n)
unfolding standard
cm_placed prn r place n out e is =
    is
    ∙ row_same _ _ n (λ j h.
    let there : (place % 10230 + j) % 10230 ≡ (place + j) % 309355200000 % 10230 = omega arith in
    ap₂ chip_from (e ∙ sym (same_registers.cm prn).starts) there ∙ sym (l2_chip (of_prn states_cm prn) ((place + j) % 309355200000 % 10230)))
    ∙ sym (placed (standard 3 prn) week_l2 n place)

pub cl_placed : (prn r place n : ℕ) (out : List ℕ) → r ≡ start_cl prn → out ≡ row (λ j. chip_from r ((place % 767250 + j) % 767250)) n
    → out ≡ map (standard 4 prn) (places_from week_l2 place n)
unfolding standard
cl_placed prn r place n out e is =
    is
    ∙ row_same _ _ n (λ j h.
    let there : (place % 767250 + j) % 767250 ≡ (place + j) % 309355200000 % 767250 = omega arith in
    ap₂ chip_from (e ∙ sym (same_registers.cl prn).starts) there ∙ sym (l2_chip (of_prn states_cl prn) ((place + j) % 309355200000 % 767250)))
    ∙ sym (placed (standard 4 prn) week_l2 n place)
