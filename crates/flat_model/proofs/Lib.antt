pub mod KeptPages
pub mod BodyRows
pub mod ListLemmas
pub mod MoveRows
