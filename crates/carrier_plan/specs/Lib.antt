pub mod Keys
pub mod PlanOf
pub mod Printed
pub mod Tables
