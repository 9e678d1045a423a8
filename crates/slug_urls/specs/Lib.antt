pub mod Urls
pub mod Descent
pub mod Plans
pub mod Flat
pub mod Laws
