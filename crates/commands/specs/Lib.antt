-- What a line of the console asks for.
pub mod Commands
pub mod LongLines
