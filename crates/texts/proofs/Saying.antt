-- A program that takes bytes one after the other.
--     plain-take                               of bytes without a newline, the first k
--     kept_more                                a line of which the first k bytes are kept
--     replies-append, rest-append              what is said to two inputs, one after the other
--     replies_more, rest_more                  to one byte more
-- Assumes nothing.
use Prim.Native.Nat.{ℕ, zero, suc, ◌+◌, ◌<◌}
use mathlib.Core.List.{List, [], ◌∷◌, ◌++◌, append_assoc, append-nil}
use mathlib.Core.Path.{◌≡◌, refl, sym, ap, ◌∙◌}
use native.Mathlib.Numerals.{add-one}
use lib.ListN.{length, take, get_or}
use lib.Seq.{take-suc}
pub use Rattle.texts.specs.Saying.{Plain}
use Rattle.texts.specs.Saying.{rest_of, replies_of}

pub plain-take : (k : ℕ) (l : List ℕ) → Plain l → Plain (take k l)
plain-take zero l p = tt
plain-take (suc k) [] p = tt
plain-take (suc k) (b ∷ l) p = (p.0, plain-take k l p.1)

-- ---- the bytes kept

pub kept_more : (n : ℕ) (x y : List ℕ) → take n (take n x ++ y) ≡ take n (x ++ y)
kept_more zero x y = refl
kept_more (suc n) [] y = refl
kept_more (suc n) (a ∷ x) y = ap (λ (l : List ℕ). a ∷ l) (kept_more n x y)

-- ---- many bytes

module _ {S : Type 0} (next : S → ℕ → S) where
  pub rest-append : (s : S) (xs ys : List ℕ) → rest_of next s (xs ++ ys) ≡ rest_of next (rest_of next s xs) ys
  rest-append s [] ys = refl
  rest-append s (x ∷ xs) ys = rest-append (next s x) xs ys

  pub rest_more : (s : S) (input : List ℕ) (i : ℕ) → i < length input → rest_of next s (take (i + 1) input) ≡ next (rest_of next s (take i input)) (get_or input i 0)
  rest_more s input i h = rw (add-one i, take-suc input i 0 h) (rest-append s (take i input) (get_or input i 0 ∷ []))

  module _ (said : S → ℕ → List ℕ) where
    pub replies-append : (s : S) (xs ys : List ℕ)
        → replies_of next said s (xs ++ ys) ≡ replies_of next said s xs ++ replies_of next said (rest_of next s xs) ys
    replies-append s [] ys = refl
    replies-append s (x ∷ xs) ys =
        ap (λ (l : List ℕ). said s x ++ l) (replies-append (next s x) xs ys)
        ∙ sym (append_assoc (said s x) (replies_of next said (next s x) xs) (replies_of next said (rest_of next (next s x) xs) ys))

    pub replies_more : (s : S) (input : List ℕ) (i : ℕ) → i < length input
        → replies_of next said s (take (i + 1) input)
        ≡ replies_of next said s (take i input) ++ said (rest_of next s (take i input)) (get_or input i 0)
    replies_more s input i h =
        let b = get_or input i 0 in
        rw (add-one i, take-suc input i 0 h)
        (replies-append s (take i input) (b ∷ [])
        ∙ ap (λ (l : List ℕ). replies_of next said s (take i input) ++ l) (append-nil (said (rest_of next s (take i input)) b)))
