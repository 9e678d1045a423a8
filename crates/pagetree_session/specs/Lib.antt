pub mod Standing
pub mod Beginning
pub mod Ending
pub mod Words
pub mod Codes
pub mod Laws
