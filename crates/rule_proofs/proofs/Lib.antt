pub mod Numbers
pub mod Lefts
pub mod Scopes
pub mod Values
pub mod Shown
pub mod Showing
