pub mod Pieces
pub mod Worst
pub mod Telling
pub mod Agreeing
pub mod JsonTelling
pub mod Styling
