pub mod Arguments
pub mod Leaves
pub mod Formed
pub mod Walking
pub mod Meant
