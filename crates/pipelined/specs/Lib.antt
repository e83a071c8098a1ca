-- What the private functions of this crate say: what the turns of a tick change, what it knows of the slots ahead, and what it leaves.
pub mod Turnings
