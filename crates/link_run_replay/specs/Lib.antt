pub mod CaptureRun
pub mod EntryLines
pub mod Replay
pub mod Replayed
pub mod RunText
pub mod WholeText
