pub mod Containers
pub mod InHand
