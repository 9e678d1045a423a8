pub mod Holding
pub mod Serving
pub mod Exchanging
pub mod Ending
pub mod Laws
