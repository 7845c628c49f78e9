-- What the console answers to the calls that hand back a channel.
pub mod ChannelAnswers
