pub mod Handing
pub mod ChannelLines
pub mod WordPlaces
pub mod Giving
pub mod Follows
pub mod Reading
pub mod Silence
