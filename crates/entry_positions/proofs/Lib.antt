pub mod PassedLaws
pub mod OpenLaws
pub mod TermLaws
