pub mod Rows
pub mod Needs
pub mod Naming
pub mod Laws
