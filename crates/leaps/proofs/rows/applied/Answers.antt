-- `leaps::rows::applied` meets its contract: by the row's numbers, or by the law of digits.
-- Assumes nothing.
use Rattle.std.proofs.Common.{ℕ, ◌≡◌, ◌<◌, ◌+◌, ◌-◌, ◌*◌, ◌∙◌, sym, ap, length, List, arith}
use lib.ListN.{take, drop}
use borrow.Author.Tests.{eqb-false}
use Rattle.registers.specs.Row.{combine}
use Rattle.leaps.specs.Leaps.{rows_of}
use Rattle.leaps.specs.Digits.{digits_of}
use Rattle.leaps.proofs.Digits.{row_is, fits_kept, kept_is}
use Rattle.leaps.proofs.rows.applied.Goals as goal

pub returns-then-is_empty : goal.returns-then-is_empty
returns-then-is_empty c =
    let a = c.args in
    let s = a.table.width in
    let long : a.k * s + s - a.k * s ≡ s = omega arith in
    c.combined.ensures
    ∙ ap (λ (n : ℕ). combine (take n (drop (a.k * s) a.table.entries.now)) a.register) long
    ∙ ap (λ (row : List ℕ). combine row a.register) (sym (row_is s a.table.entries.now a.k))

pub slice_bounds-combined_by_digits-end : goal.slice_bounds-combined_by_digits-end
slice_bounds-combined_by_digits-end c =
    let a = c.args in
    let some : 0 < length a.table.by_digits.now = omega (arith, eqb-false (length a.table.by_digits.now) 0 (sym c.is_empty.ensures ∙ c.if-is_empty.false)) in
    let is = (c.requires.as_the_rows some).as_rows some in
    fits_kept (digits_of a.table.width) (rows_of a.table.width a.table.entries.now) a.table.width a.table.entries.now a.table.by_digits.now a.k is c.requires.row_there

pub returns : goal.returns
returns c =
    let a = c.args in
    let s = a.table.width in
    let g : ℕ = digits_of s in
    let some : 0 < length a.table.by_digits.now = omega (arith, eqb-false (length a.table.by_digits.now) 0 (sym c.is_empty.ensures ∙ c.if-is_empty.false)) in
    let is = (c.requires.as_the_rows some).as_rows some in
    c.combined_by_digits.ensures
    ∙ kept_is g (rows_of s a.table.entries.now) s a.table.entries.now a.table.by_digits.now a.k is c.requires.row_there
    (omega arith) a.register (a.k * (g * 16) + g * 16 - a.k * (g * 16)) (omega arith)
