pub mod MadeTexts
pub mod MadeGraphs
