pub mod DeskLemmas
pub mod PlaceLemmas
pub mod RiseLemmas
pub mod AnswerLemmas
