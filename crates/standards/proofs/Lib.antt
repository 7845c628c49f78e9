-- `Calls` is what the calls give one after the other, `Delays` that the code delay of a PRN is found.
pub mod Calls
pub mod Delays
