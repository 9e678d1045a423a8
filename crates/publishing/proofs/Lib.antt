pub mod BodyLemmas
pub mod DueLemmas
pub mod DueLaws
pub mod DueTables
pub mod TickLemmas
pub mod TickedLemmas
pub mod LawLemmas
pub mod TimesLemmas
