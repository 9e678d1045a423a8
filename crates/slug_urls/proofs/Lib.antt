pub mod TreeUrls
pub mod UpLemmas
pub mod Reaching
pub mod Descents
pub mod Listing
pub mod Prefixes
pub mod Pairs
pub mod Counts
pub mod Taken
pub mod PlanLemmas
pub mod Grafts
pub mod Landing
pub mod Renaming
pub mod LawLemmas
mod Examples
