pub mod Code
pub mod Line
pub mod Packed
pub mod Decoded
pub mod Tables
pub mod Clean
