pub mod CalendarLemmas
pub mod EntryLemmas
pub mod FrontLemmas
pub mod ShownLemmas
pub mod TableLemmas
pub mod TextLemmas
pub mod WrittenLemmas
