mod AccessLemmas
mod KeptLemmas
