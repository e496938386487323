pub mod FecRuns
pub mod Missing
