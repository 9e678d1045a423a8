pub mod CountLemmas
pub mod PageLemmas
pub mod PlaceLemmas
pub mod SiblingLemmas
pub mod ParentLemmas
pub mod WholeLemmas
pub mod RenameLemmas
pub mod MoveLemmas
mod Examples
