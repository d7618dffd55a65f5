pub mod Entries
pub mod HasLaws
pub mod DeriveLaws
