pub mod Rewritings
pub mod TermSplits
pub mod Firsts
pub mod Kinds
pub mod Passing
