pub mod FieldLemmas
pub mod WordLemmas
pub mod ScanLemmas
pub mod ReadingLemmas
pub mod PartLemmas
