mod Rows
mod Laws
mod FlatLaws
pub mod FaultLaws
mod MachineLaws
mod StackLemmas
