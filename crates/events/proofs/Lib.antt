pub mod Feeding
pub mod Kept
pub mod Whole
pub mod Rounds
pub mod Forms
pub mod StepLaws
