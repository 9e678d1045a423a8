pub mod Nearest
pub mod Events
pub mod Asked
pub mod Plans
pub mod Moderated
