-- What the calls answer at the ends of their ranges, and just past them, as `specs/Places.antt` lists it.
-- Assumes nothing.
use mathlib.Core.Path.{◌≡◌, refl}
use lib.IntN.{pos, neg_ℤ}
use Rattle.places.specs.Places.{answer, reading_reply, place_of_reply, gap_reply, EndValues}

pub half_a_week_on : gap_reply 1 0 309355200000 ≡ answer (neg_ℤ (pos 309355200000))
unfolding gap_reply
half_a_week_on = refl

pub end_values : EndValues
unfolding reading_reply place_of_reply gap_reply
end_values = record {
  last_read = refl;
  last_place = refl;
  past_the_week = refl;
  past_the_epochs = refl;
  past_the_chips = refl;
  past_both = refl;
  largest_gap = refl;
  half_a_week_on = half_a_week_on;
  half_a_week_back = refl;
  one_back = refl;
  one_on = refl;
  first_past = refl;
  second_past = refl;
  reading_257 = λ x. refl;
  reading_4294967297 = λ x. refl;
  place_257 = λ x y. refl;
  place_4294967297 = λ x y. refl;
  gap_257 = λ x y. refl;
  gap_4294967297 = λ x y. refl;
}
