pub mod Interfaces
pub mod Tables
pub mod Sources
pub mod FirstFault
pub mod FirstFaultExamples
