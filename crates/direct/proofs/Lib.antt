-- Laws that the functions' proofs cite.
pub mod Spent
pub mod Regiven
pub mod PassStates
pub mod PassLaws
pub mod Asked
pub mod SlotLaws
