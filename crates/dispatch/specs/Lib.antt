pub mod Handle
pub mod Standing
pub mod Parts
