-- What the private functions of this crate say: what the passes keep, and what a slot leaves.
pub mod Passes
