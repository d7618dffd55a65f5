pub mod Records
pub mod Verdicts
