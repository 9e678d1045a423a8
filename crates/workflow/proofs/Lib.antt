pub mod FlowLemmas
pub mod StageLemmas
pub mod CallerLemmas
