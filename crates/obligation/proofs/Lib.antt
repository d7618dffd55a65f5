pub mod Left
pub mod Absent
