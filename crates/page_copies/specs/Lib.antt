pub mod Contents
pub mod Coming
pub mod Copied
