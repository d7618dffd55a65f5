mod DepthLaws
mod ImageLaws
mod AbstractedLaws
mod TaskLaws
mod WalkedLaws
mod MadeLaws
