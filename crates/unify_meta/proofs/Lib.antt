pub mod DifferLaws
pub mod MetaLaws
pub mod StepLaws
pub mod BindingLaws
pub mod PutLaws
pub mod RoundLaws
pub mod GroundLaws
