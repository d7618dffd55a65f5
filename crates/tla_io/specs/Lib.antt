pub mod Causes
pub mod Files
pub mod InMemory
pub mod Told
