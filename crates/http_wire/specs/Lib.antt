pub mod Scanning
pub mod Fielding
pub mod Reading
pub mod Stepping
pub mod Responding
