-- Laws that the functions' proofs cite, here and in the crates of the two forms.
pub mod Falls
pub mod BitLaws
pub mod TrailingLaws
pub mod Ready
pub mod MaskLaws
pub mod LookLaws
pub mod Costs
pub mod TurnLaws
