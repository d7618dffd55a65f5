pub mod Marks
pub mod Input
pub mod Lists
pub mod Faults
pub mod Laws
