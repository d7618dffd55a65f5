pub mod Walks
pub mod Named
pub mod Fitting
pub mod Items
mod Going
mod Declared
mod Shapes
pub mod Units
pub mod Modules
mod Headline
