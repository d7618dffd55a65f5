pub mod FormLaws
pub mod TruthLaws
