pub mod Unfolding
pub mod Nodes
