-- What the contracts of `layout` cite.
pub mod Coder
