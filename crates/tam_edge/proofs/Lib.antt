pub mod EntriesLemmas
pub mod KnownLemmas
pub mod MemFilesLemmas
