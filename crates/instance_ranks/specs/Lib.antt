pub mod Seeking
pub mod Partners
pub mod Atoms
pub mod Lives
