-- How a text begins: what `strip_prefix` of std compares is `begins`.
--     behind_told    what it answers, by `begins`
-- Assumes nothing.
use Prim.Native.Nat.{ℕ, ◌+◌}
use mathlib.Core.Bool.{Bool, true, false, ◌&&◌}
use mathlib.Core.List.{List, [], ◌∷◌}
use mathlib.Core.Path.{◌≡◌, refl, sym, ap₂, ◌∙◌}
use lib.Dec.{eqb}
use lib.ListN.{length, take, drop}
use borrow.Author.Tests.{eqb-true, eq-eqb, ne_eqb}
use Rattle.std.specs.Borrow.{Bor}
use Rattle.std.specs.Cmp.Lexicographic.{pointwise}
use Rattle.std.specs.Prelude.{Option, Some, None, MatchOption}
use Rattle.std.proofs.lemmas.Bool.{eqb-false}
use Rattle.commands.specs.Commands.{begins}

eqb_either_way : (a b : ℕ) → eqb a b ≡ eqb b a
eqb_either_way a b = by (eqb a b) refl
  where
    by : (t : Bool) → eqb a b ≡ t → t ≡ eqb b a
    by true e = sym (eq-eqb b a (sym (eqb-true a b e)))
    by false e = sym (ne_eqb b a (λ same. eqb-false a b e (sym same)))

compared : (word text : List ℕ) → pointwise eqb (take (length word) text) word ≡ begins word text
compared [] text = refl
compared (b ∷ bs) [] = refl
compared (b ∷ bs) (t ∷ ts) = ap₂ (λ (x y : Bool). x && y) (eqb_either_way t b) (compared bs ts)

module _ (word text : List ℕ) where
  -- what the answer says, given whether the text begins with the word
  abbrev IsBehind : Bool → Option (Bor (List ℕ)) → Type 0
  IsBehind t answer = MatchOption answer (t ≡ false) (λ rest. (t ≡ true) × (rest.now ≡ drop (length word) text))

  pub behind_told : (answer : Option (Bor (List ℕ)))
      → MatchOption answer (pointwise eqb (take (length word) text) word ≡ false) (λ rest. (pointwise eqb (take (length word) text) word ≡ true) × (rest.now ≡ drop (length word) text) × (length rest.now + length word ≡ length text))
      → IsBehind (begins word text) answer
  behind_told None e = sym (compared word text) ∙ e
  behind_told (Some rest) e = (sym (compared word text) ∙ e.0, e.1)
