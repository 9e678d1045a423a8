pub mod FaultLemmas
pub mod SourceLemmas
pub mod SinkLemmas
pub mod MemoryLemmas
