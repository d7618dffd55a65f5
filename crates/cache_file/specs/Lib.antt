pub mod Lines
pub mod Records
pub mod Written
pub mod Laws
