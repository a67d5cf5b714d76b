pub mod ManagedPlaces
pub mod Octets
pub mod Hyperframe
