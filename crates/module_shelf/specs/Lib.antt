pub mod Loading
pub mod Order
pub mod Causes
