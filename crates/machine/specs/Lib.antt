-- The declared types of this crate as the definitions of the event program have them.
pub mod View
