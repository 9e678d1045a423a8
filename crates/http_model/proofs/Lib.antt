pub mod HeadLemmas
pub mod FrontLemmas
pub mod FinalLemmas
pub mod BoundLemmas
mod Examples
