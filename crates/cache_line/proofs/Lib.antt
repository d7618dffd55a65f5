pub mod Texts
pub mod OneLine
