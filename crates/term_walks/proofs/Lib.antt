pub mod TreeLaws
pub mod NodeLaws
pub mod WalkLaws
pub mod MoveLaws
pub mod PlaceLaws
