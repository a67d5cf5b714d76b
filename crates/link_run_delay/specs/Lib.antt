pub mod Delay
pub mod Existing
pub mod ControlIsSent
pub mod ChannelsArePrefixes
pub mod PrefixesAreRead
pub mod ManagementArrives
