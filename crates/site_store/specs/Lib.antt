pub mod Faults
pub mod History
pub mod Recovery
pub mod Standing
pub mod Running
pub mod Opening
pub mod Laws
