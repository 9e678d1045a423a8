pub mod Flows
pub mod Stages
