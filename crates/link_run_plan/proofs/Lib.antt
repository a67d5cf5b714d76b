pub mod Checks
pub mod FileAnswers
pub mod FileReading
pub mod Judging
pub mod PlanCases
pub mod Yes
