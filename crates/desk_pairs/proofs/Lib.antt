pub mod KeyLemmas
pub mod PlaceLemmas
pub mod SearchLemmas
pub mod PairLemmas
