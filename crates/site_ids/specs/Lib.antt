pub mod Ids
pub mod Moment
pub mod NoMemory
pub mod PathText
pub mod Slug
