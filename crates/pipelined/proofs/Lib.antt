-- Laws that the functions' proofs cite.
pub mod FlightLaws
pub mod FlightMasks
pub mod FlightPairs
pub mod Remainders
pub mod PipelinedTurns
pub mod PipelinedRows
pub mod PipelinedTick
