pub mod BufferLemmas
pub mod EndLemmas
pub mod ExchangeLemmas
pub mod MapLemmas
pub mod ServeLemmas
pub mod ServingLemmas
pub mod SoFarLemmas
pub mod TurnLemmas
