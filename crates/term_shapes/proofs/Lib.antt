pub mod Extending
pub mod ShapeLaws
pub mod FormLaws
