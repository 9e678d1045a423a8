pub mod StayLemmas
pub mod WayLemmas
pub mod LossLemmas
pub mod BackLemmas
pub mod BelowLemmas
