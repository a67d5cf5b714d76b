pub mod CaptureLines
