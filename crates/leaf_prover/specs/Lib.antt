pub mod Fresh
pub mod Marks
pub mod Forms
pub mod Answers
pub mod Searches
pub mod Laws
pub mod Provers
