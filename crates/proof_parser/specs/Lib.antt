pub mod Names
pub mod Modules
pub mod Nests
pub mod Spelling
pub mod Laws
