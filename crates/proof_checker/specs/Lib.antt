pub mod Latest
pub mod Sides
pub mod Rules
pub mod Plans
pub mod Runs
pub mod Tables
pub mod Schemas
