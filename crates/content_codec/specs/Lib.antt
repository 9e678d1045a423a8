pub mod Reading
pub mod Fields
pub mod Contents
pub mod Laws
