pub mod Equal
mod Examples
