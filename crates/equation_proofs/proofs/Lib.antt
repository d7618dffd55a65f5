pub mod RewritingLaws
pub mod TermSplitLaws
pub mod ToldLaws
pub mod KindLaws
pub mod PassingLaws
pub mod StepLaws
