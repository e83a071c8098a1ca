-- What the functions of this crate say beyond the definitions of the event program.
pub mod Feeding
pub mod View
