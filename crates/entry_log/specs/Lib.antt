pub mod Appending
pub mod Entries
pub mod Log
pub mod Scan
pub mod Laws
