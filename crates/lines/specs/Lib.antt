-- What the functions of this crate say beyond the definitions of the event program's text.
pub mod Lines
