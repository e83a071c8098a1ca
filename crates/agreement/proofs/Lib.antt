-- Computed theorems, from what the second program says today.
pub mod Seeds
pub mod Ledgers
pub mod Looks
