pub mod BlockPlace
pub mod Blocks
pub mod Copied
pub mod Filled
pub mod SampleOfBits
pub mod SampleRate
pub mod Samples
pub mod Spread
