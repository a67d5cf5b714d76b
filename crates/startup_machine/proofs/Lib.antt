pub mod Queues
pub mod Steps
pub mod Meets
pub mod Agreements
pub mod Capabilities
pub mod Histories
