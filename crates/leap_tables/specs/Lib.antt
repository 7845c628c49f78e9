-- What a table of leaps is.
pub mod Tables
