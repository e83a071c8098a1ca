pub mod Digits
pub mod Texts
pub mod Names
pub mod Cuts
pub mod Readings
