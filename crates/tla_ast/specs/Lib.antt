pub mod Place
pub mod Fault
pub mod Answers
pub mod Word
pub mod Listing
pub mod Tree
pub mod formers
