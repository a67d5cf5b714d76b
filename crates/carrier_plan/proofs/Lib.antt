pub mod Elements
pub mod Flows
pub mod Octets
pub mod Texts
pub mod Values
