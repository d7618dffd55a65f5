pub mod MetaLaws
pub mod TermLaws
pub mod AtomLaws
pub mod TaskLaws
pub mod SideLaws
