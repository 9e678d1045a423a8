pub mod OptionLemmas
pub mod LimitLemmas
pub mod MemberLemmas
pub mod BlockLemmas
pub mod ContentLemmas
pub mod TextLemmas
mod Examples
