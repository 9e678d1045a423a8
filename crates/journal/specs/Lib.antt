pub mod Form
pub mod Head
pub mod Journal
pub mod Record
pub mod Scan
