pub mod CallCount
pub mod Faults
pub mod Files
pub mod Images
pub mod Memory
pub mod OneFile
pub mod Past
pub mod Story
