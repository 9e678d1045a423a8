pub mod Places
pub mod Limits
pub mod Renames
pub mod Shape
pub mod Changes
