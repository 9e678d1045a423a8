pub mod FitLemmas
pub mod HistoryLemmas
pub mod KeptLemmas
pub mod RunLemmas
pub mod ReplayLemmas
pub mod OpenLemmas
pub mod SoundLemmas
