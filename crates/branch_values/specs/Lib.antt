pub mod Judging
pub mod Reasons
pub mod Plans
pub mod Memos
pub mod News
