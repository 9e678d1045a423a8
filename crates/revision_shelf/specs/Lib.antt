pub mod Shelf
pub mod Kept
pub mod Purge
