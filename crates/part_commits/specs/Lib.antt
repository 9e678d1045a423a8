pub mod Ending
pub mod Purging
pub mod InStep
pub mod Laws
pub mod Links
