pub mod Cutting
pub mod Printed
pub mod ReadsBack
pub mod ListLemmas
pub mod Texts
