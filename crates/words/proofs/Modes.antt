-- Modes at the front of a text: what the readers need, which see a text by its length and its first byte.
-- Assumes nothing.
use Prim.Native.Nat.{ℕ, ◌-◌, ◌≤◌, ◌<◌}
use mathlib.Core.List.{List, [], ◌∷◌}
use mathlib.Core.Path.{◌≡◌, refl, sym, ap}
use native.Mathlib.Omega.{arith}
use lib.ListN.{length, take, drop, get_or}
use lib.Seq.{take_all}
use borrow.Author.Tests.{eq-eqb, ne_eqb}
use Rattle.std.specs.Prelude.{Some, None}
use Rattle.machine.specs.declared.Mode.TheVariants as modes
use Rattle.words.specs.Words.{read_running, read_held, read_mode}

-- what stands behind a first byte
behind : (b : ℕ) (bs : List ℕ) → take (length (b ∷ bs) - 1) bs ≡ bs
behind b bs = take_all (length (b ∷ bs) - 1) bs (omega arith)

module _ (mark : ℕ) where
  pub no_running : (l : List ℕ) → length l < 1 → read_running mark l ≡ None
  no_running [] h = refl
  no_running (b ∷ bs) h = absurd (omega (arith, h))

  pub other_mark : (l : List ℕ) → (get_or l 0 0 ≡ mark → ⊥) → read_running mark l ≡ None
  other_mark [] other = refl
  other_mark (b ∷ bs) other = rw (ne_eqb b mark other) refl

  pub runs : (l : List ℕ) → 1 ≤ length l → get_or l 0 0 ≡ mark → read_running mark l ≡ Some (modes.Running, take (length l - 1) (drop 1 l))
  runs [] h is = absurd (omega (arith, h))
  runs (b ∷ bs) h is = rw (eq-eqb b mark is) (ap (λ (rest : List ℕ). Some (modes.Running, rest)) (sym (behind b bs)))

  pub no_mode : (l : List ℕ) → length l < 1 → read_mode mark l ≡ None
  unfolding read_mode
  no_mode [] h = refl
  no_mode (b ∷ bs) h = absurd (omega (arith, h))

  pub is_running : (l : List ℕ) → get_or l 0 0 ≡ 82 → read_mode mark l ≡ read_running mark (take (length l - 1) (drop 1 l))
  unfolding read_mode
  is_running [] is = absurd (omega (arith, is))
  is_running (b ∷ bs) is = rw (eq-eqb b 82 is) (ap (read_running mark) (sym (behind b bs)))

  pub is_held : (l : List ℕ) → get_or l 0 0 ≡ 72 → read_mode mark l ≡ read_held mark (take (length l - 1) (drop 1 l))
  unfolding read_mode
  is_held [] is = absurd (omega (arith, is))
  is_held (b ∷ bs) is =
      let other : b ≡ 82 → ⊥ = λ (e : b ≡ 82). omega (arith, e, is) in
      rw (ne_eqb b 82 other, eq-eqb b 72 is) (ap (read_held mark) (sym (behind b bs)))

  pub other_mode : (l : List ℕ) → (get_or l 0 0 ≡ 82 → ⊥) → (get_or l 0 0 ≡ 72 → ⊥) → read_mode mark l ≡ None
  unfolding read_mode
  other_mode [] r k = refl
  other_mode (b ∷ bs) r k = rw (ne_eqb b 82 r, ne_eqb b 72 k) refl
