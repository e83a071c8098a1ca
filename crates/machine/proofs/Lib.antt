pub mod RecordLaws
pub mod SlotLaws
