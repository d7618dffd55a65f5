pub mod Names
pub mod Told
pub mod Stand
pub mod Steps
