pub mod Parts
pub mod Shown
pub mod Table
pub mod Kept
pub mod Laws
