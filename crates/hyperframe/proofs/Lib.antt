pub mod SyncSteps
pub mod LossSteps
