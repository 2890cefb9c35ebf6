pub mod Ready
pub mod Walk
pub mod Results
