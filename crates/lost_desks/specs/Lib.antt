pub mod Staying
pub mod Losses
