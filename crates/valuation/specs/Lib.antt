pub mod Truth
pub mod Forms
