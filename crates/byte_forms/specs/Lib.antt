pub mod Fields
pub mod Fronts
pub mod Contents
pub mod Commands
pub mod Entries
pub mod Rows
pub mod Worlds
