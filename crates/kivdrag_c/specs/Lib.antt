pub mod Clocks
pub mod Results
