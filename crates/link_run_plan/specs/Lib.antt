pub mod Check
pub mod ChecksPlan
pub mod OfOctets
pub mod OnPlan
pub mod PlanCalls
pub mod PlanFile
pub mod Texts
