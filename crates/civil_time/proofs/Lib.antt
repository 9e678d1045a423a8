pub mod PeriodLemmas
pub mod CalendarLemmas
pub mod CivilLemmas
pub mod TextLemmas
pub mod ByteLemmas
mod Examples
