pub mod Routing
pub mod Router
pub mod Calling
pub mod Digests
