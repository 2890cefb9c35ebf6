pub mod Walk
pub mod Results
