-- What the theorems of this crate say.
pub mod Says
