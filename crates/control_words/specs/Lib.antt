pub mod Announcement
pub mod Places
pub mod ControlWord
pub mod Reading
