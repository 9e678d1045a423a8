pub mod Standing
pub mod Live
pub mod Stopping
pub mod Needs
pub mod Plans
