pub mod Subtree
pub mod Cuts
