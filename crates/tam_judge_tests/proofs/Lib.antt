mod SmallGraphs
mod WholeBlocks
