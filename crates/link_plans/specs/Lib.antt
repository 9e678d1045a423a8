pub mod PageLinks
pub mod Told
pub mod Layers
pub mod Laws
pub mod Found
