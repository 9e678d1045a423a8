pub mod Periods
pub mod Calendar
pub mod Civil
pub mod TimeText
pub mod Laws
