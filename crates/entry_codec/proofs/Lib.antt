pub mod ListReadings
pub mod Commands
pub mod Tags
pub mod Entries
