pub mod Append
pub mod Laws
pub mod Plans
pub mod Spots
pub mod Applying
