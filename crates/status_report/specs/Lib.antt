pub mod Texts
pub mod Statuses
pub mod Report
pub mod Telling
pub mod Json
pub mod Styles
pub mod Laws
