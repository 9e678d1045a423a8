pub mod Step
pub mod Path
pub mod Order
pub mod Laws
