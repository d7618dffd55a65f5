pub mod EntryLaws
pub mod ReadLaws
pub mod StateLaws
pub mod HeldLaws
