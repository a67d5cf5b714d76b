pub mod Laying
pub mod GroupTable
pub mod Numbers
pub mod RunLines
