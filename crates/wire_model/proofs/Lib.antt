pub mod TranscriptLemmas
pub mod TimeLemmas
pub mod ReadLemmas
pub mod AskedLemmas
pub mod RoutedLemmas
pub mod FitLemmas
pub mod FormLemmas
