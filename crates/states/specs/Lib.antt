-- What is seen of a channel that the calls give, and of a gap.
pub mod States
