-- What the console answers to the calls that hand back no channel.
pub mod PlaceAnswers
