pub mod Times
pub mod Bodies
pub mod Laws
pub mod Ticks
pub mod Ticked
