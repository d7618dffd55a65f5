pub mod Metas
pub mod Unify
pub mod Walk
pub mod Laws
