pub mod FirstLaws
pub mod SubtermLaws
pub mod ListingLaws
pub mod SizeLaws
pub mod CodeLaws
