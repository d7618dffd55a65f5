pub mod KeptLaws
pub mod StartLaws
pub mod ValueLaws
