pub mod PlaceLaws
pub mod ClosingLaws
pub mod ReplaceLaws
pub mod RewriteLaws
