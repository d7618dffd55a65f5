pub mod Reading
pub mod Shapes
pub mod Texts
pub mod Frames
pub mod Given
pub mod Readers
pub mod Key
