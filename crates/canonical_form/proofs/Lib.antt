pub mod Symbols
pub mod Facts
pub mod Gathering
pub mod Covering
pub mod Variables
pub mod Numbers
