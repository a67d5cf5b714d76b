pub mod Containers
pub mod Held
pub mod View
