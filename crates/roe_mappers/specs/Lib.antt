pub mod CarriedBits
pub mod MovedBits
pub mod Symbols
pub mod Parts
pub mod Routes
pub mod FrameAfter
pub mod Laws
