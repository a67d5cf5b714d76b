pub mod Pushes
pub mod Receiving
pub mod Octets
pub mod FewDigits
pub mod Inspecting
