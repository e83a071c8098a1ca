-- What the functions of this crate say beyond the definitions of feeding.
pub mod Texts
