pub mod LiftLaws
pub mod ClosedLaws
pub mod SplitLaws
pub mod TurnLaws
pub mod MemoLaws
pub mod BoardLaws
pub mod RankLaws
