pub mod Entries
pub mod Growing
pub mod Memos
pub mod Found
pub mod Boards
