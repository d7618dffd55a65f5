pub mod WrittenLaws
pub mod InferenceLaws
pub mod TableLaws
