pub mod Tables
pub mod Times
pub mod Forms
pub mod Routes
pub mod Answers
pub mod Exchange
pub mod Transcript
pub mod Laws
