-- The contracts of the public functions, and of the C functions.
mod Facts
pub mod Contracts
pub mod CContracts
