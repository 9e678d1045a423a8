pub mod Faults
pub mod Plans
pub mod Making
pub mod Aliasing
pub mod Moving
pub mod Copying
