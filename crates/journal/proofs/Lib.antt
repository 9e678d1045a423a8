pub mod ByteLemmas
pub mod FormLemmas
pub mod JournalLemmas
pub mod ReadingLemmas
pub mod ScanLemmas
