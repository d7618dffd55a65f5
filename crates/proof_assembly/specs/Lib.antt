pub mod States
pub mod ScopeLaws
pub mod Scopes
pub mod Ranks
pub mod Laws
