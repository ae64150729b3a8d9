pub mod CallsConcluding
pub mod CallsExactness
pub mod CallsMains
pub mod CallsGraphs
pub mod CallsOutcomes
pub mod Verifying
