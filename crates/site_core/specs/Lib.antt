pub mod Finding
pub mod Groups
pub mod Kids
pub mod Texts
pub mod Linking
pub mod Standing
