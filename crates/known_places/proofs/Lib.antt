pub mod EndStates
pub mod KnownPlaces
