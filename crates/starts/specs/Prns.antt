-- What a number is taken for where a PRN is asked for.
-- Assumes nothing.
use Rattle.std.specs.Prelude.{ℕ, Result, ◌≡◌, true, false, ◌&&◌, leb, MatchResult}
use Rattle.refusals.specs.declared.Refusal.{Refusal}
use Rattle.refusals.specs.declared.Refusal.TheVariants as refusals
use Rattle.starts.specs.declared.prns.Prn.{Prn}

-- the PRN of that number, or refusal 2 where it is not 1 to 37
abbrev pub TakesPrn : ℕ → Result Prn Refusal → Type 0
TakesPrn n r =
    MatchResult r (λ p. ((leb 1 n && leb n 37) ≡ true) × (p.number ≡ n)) (λ e. ((leb 1 n && leb n 37) ≡ false) × (e ≡ refusals.Prn))
