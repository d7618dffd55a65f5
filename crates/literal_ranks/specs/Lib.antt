pub mod Seeking
pub mod Dividing
