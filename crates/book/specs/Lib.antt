pub mod Refusals
pub mod Lines
pub mod Asked
pub mod Afterwards
pub mod PairSums
pub mod Operations
