pub mod Events
pub mod Startup
