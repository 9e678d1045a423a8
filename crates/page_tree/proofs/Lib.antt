pub mod ListLemmas
pub mod OrderLemmas
pub mod RowLemmas
pub mod RootLemmas
pub mod WalkLemmas
pub mod ApartLemmas
pub mod RowWalkLemmas
pub mod RoomLemmas
mod Examples
