pub mod Tree
pub mod Walk
pub mod Rows
pub mod Grove
pub mod Walking
pub mod Listing
pub mod Laws
