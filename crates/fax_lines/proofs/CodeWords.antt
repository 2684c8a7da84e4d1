pub mod PairsOfRuns
