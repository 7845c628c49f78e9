-- Sixteen columns as lanes.
--     row_map         a list computed number by number, as a row
--     shifted_lanes   a shift of each lane, and its lowest digit
--     stored          lanes that fill a slice
--     chip_of_lane    where a chip stands
-- Assumes nothing.
use Rattle.std.proofs.Common.{◌≡◌, ℕ, ◌+◌, ◌*◌, ◌/◌, ◌%◌, ◌^◌, ◌<◌, ◌≤◌, List, length, map, get_or, take, drop, bit_and, arith, refl, sym, ap, ◌∙◌}
use Rattle.std.specs.Prelude.{replicate}
use Rattle.std.specs.Simd.Lanes.{zip2}
use Rattle.std.proofs.lemmas.Simd.{zip2_splat, map-map, put_chunk_whole}
use Rattle.std.proofs.lemmas.Nat.{and_mask}
use Rattle.std.proofs.lemmas.Grind.{same_number_lists}
use Rattle.std.proofs.lemmas.List.{get_or-map, length-map}
use lib.ListN.{length-drop}
use lib.Seq.{length-take-le}
use lib.Lanes.{put_chunk}
use Rattle.columns.specs.Columns.{chip_in}
use Rattle.columns.specs.Rows.{row}
use Rattle.columns.proofs.Rows.{row_at, row-length}

pub row_map : (g : ℕ → ℕ) (v : List ℕ) (n : ℕ) → length v ≡ n → map g v ≡ row (λ j. g (get_or v j 0)) n
row_map g v n e =
    let long : length (map g v) ≡ n = length-map v g ∙ e in
    same_number_lists _ _ (long ∙ sym (row-length _ n))
    (λ i h. get_or-map g v i 0 0 (omega (arith, h, long, e)) ∙ sym (row_at (λ j. g (get_or v j 0)) n i (omega (arith, h, long))))

pub shifted_lanes : (v : List ℕ) (k : ℕ) → length v ≡ 16
    → zip2 bit_and (zip2 (λ x n. x / 2 ^ n) v (replicate 16 k)) (replicate 16 1) ≡ map (λ c. c / 2 ^ k % 2) v
shifted_lanes v k e =
    ap (λ l. zip2 bit_and l (replicate 16 1)) (zip2_splat (λ x n. x / 2 ^ n) v 16 k e)
    ∙ zip2_splat bit_and (map (λ x. x / 2 ^ k) v) 16 1 (length-map v (λ x. x / 2 ^ k) ∙ e)
    ∙ map-map (λ x. bit_and x 1) (λ x. x / 2 ^ k) v
    ∙ ap (λ (f : ℕ → ℕ). map f v) (λ i x. and_mask (x / 2 ^ k) 1 i)

-- a part of a slice, as many numbers as there are lanes
pub stored : (g : ℕ → ℕ) (v lanes out : List ℕ) (n m : ℕ) → length v ≡ m → lanes ≡ map g v → n + m ≤ length out
    → put_chunk 0 (take m (drop n out)) lanes ≡ row (λ j. g (get_or v j 0)) (length (take m (drop n out)))
stored g v lanes out n m e is room =
    let part : length (take m (drop n out)) ≡ m = length-take-le m (drop n out) (rw (length-drop n out) (omega (arith, room))) in
    let long : length lanes ≡ m = ap length is ∙ length-map v g ∙ e in
    put_chunk_whole (take m (drop n out)) lanes (part ∙ sym long) ∙ is ∙ row_map g v m e ∙ ap (row (λ j. g (get_or v j 0))) (sym part)

pub chip_of_lane : (v : List ℕ) (k j : ℕ) → j < 16 → get_or v j 0 / 2 ^ k % 2 ≡ chip_in v (k * 16 + j)
chip_of_lane v k j h =
    let lane : (k * 16 + j) % 16 ≡ j = omega (arith, h) in
    let shifted : (k * 16 + j) / 16 ≡ k = omega (arith, h) in
    rw (lane, shifted) refl
