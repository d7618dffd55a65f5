pub mod KeepLaws
pub mod ClosedLaws
pub mod WalkLaws
pub mod PlaceLaws
pub mod NewLaws
pub mod EntryLaws
pub mod AtomLaws
