pub mod Tabled
pub mod ByDigits
