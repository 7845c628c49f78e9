-- What holds of every list of calls.
pub mod Lists
