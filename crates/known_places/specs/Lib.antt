-- What is printed of places and states, and proved.
pub mod KnownPlaces
pub mod EndStates
