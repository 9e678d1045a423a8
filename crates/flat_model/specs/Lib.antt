pub mod Lists
pub mod Single
pub mod People
pub mod Made
pub mod Fits
pub mod Flat
