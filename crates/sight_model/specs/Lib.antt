pub mod Cards
pub mod Laws
pub mod References
