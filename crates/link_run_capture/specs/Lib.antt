pub mod Capture
pub mod Written
pub mod IsCapture
