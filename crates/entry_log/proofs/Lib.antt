pub mod AppendLemmas
pub mod EntryLemmas
mod Examples
pub mod ReadingLemmas
pub mod RoomLemmas
pub mod RunLemmas
