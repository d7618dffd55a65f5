pub mod Reasoning
mod Planning
mod Keeping
mod NewsLaws
