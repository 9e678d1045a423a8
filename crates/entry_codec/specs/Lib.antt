pub mod Lists
pub mod Commands
pub mod Entries
pub mod Laws
