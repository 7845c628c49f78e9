-- The generators' names.
-- Assumes nothing.
use Rattle.std.specs.Prelude.{ℕ, List, codes}
use Rattle.layout.specs.declared.Coder.{Coder}
use Rattle.layout.specs.declared.Coder.TheVariants as coders

-- As the standards print them.
abbrev pub name_of : Coder → List ℕ
name_of coders.X1a = codes "X1A"
name_of coders.X1b = codes "X1B"
name_of coders.X2a = codes "X2A"
name_of coders.X2b = codes "X2B"
name_of coders.L2Cm = codes "L2 CM"
name_of coders.L2Cl = codes "L2 CL"
name_of coders.Xa = codes "XA"
