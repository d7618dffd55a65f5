pub mod LookedLaws
