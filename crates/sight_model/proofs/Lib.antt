pub mod FindLemmas
pub mod CardLemmas
pub mod AliasLemmas
pub mod LiveLemmas
pub mod KidLemmas
