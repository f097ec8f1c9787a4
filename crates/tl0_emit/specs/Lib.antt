pub mod CodeParts
pub mod BlockTables
pub mod Tables
pub mod BlockFlows
pub mod Branches
pub mod Emitting
