pub mod SampleLines
pub mod Groups
pub mod Fronts
