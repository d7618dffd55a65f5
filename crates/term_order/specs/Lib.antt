pub mod Firsts
pub mod Walks
pub mod Sizes
pub mod Codes
