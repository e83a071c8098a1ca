pub mod Files
pub mod Ledgers
pub mod Looks
