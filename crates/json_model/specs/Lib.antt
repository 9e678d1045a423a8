pub mod Members
pub mod Limits
pub mod Content
pub mod Laws
