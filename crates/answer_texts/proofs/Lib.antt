pub mod FloatLemmas
mod ResponseExamples
mod MemoryText
