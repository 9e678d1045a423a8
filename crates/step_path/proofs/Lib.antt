pub mod StepLemmas
pub mod PathLemmas
pub mod OrderLemmas
mod Examples
