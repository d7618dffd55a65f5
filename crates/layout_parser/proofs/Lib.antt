pub mod ChainLaws
pub mod Rows
pub mod Belongs
pub mod Steps
pub mod Readers
pub mod Chains
pub mod Ends
pub mod Keeping
