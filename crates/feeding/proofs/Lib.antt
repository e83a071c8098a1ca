pub mod TextLaws
pub mod Whole
pub mod Forms
