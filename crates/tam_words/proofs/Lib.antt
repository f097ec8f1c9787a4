pub mod CommandLemmas
pub mod JobLemmas
pub mod JobParts
pub mod WordFacts
