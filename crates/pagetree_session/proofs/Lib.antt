pub mod AnswerLemmas
pub mod CallLemmas
pub mod ClockLemmas
pub mod EndLemmas
pub mod OutcomeLemmas
pub mod SessionLemmas
pub mod StoreLemmas
pub mod WordLemmas
