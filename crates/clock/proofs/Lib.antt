-- The law that the two steps cite.
pub mod Laws
