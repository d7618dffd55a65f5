pub mod LineLaws
pub mod RecordLaws
pub mod Keeping
pub mod KeyText
pub mod WriteLaws
