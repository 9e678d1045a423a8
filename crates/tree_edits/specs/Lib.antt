pub mod OnTree
pub mod Detaching
pub mod Leaving
pub mod Naming
