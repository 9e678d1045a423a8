pub mod OrderLemmas
pub mod FrontLemmas
pub mod PairLemmas
pub mod SetLemmas
pub mod LawLemmas
