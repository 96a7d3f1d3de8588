pub mod LinkLaws
pub mod PlaceLaws
pub mod ChainLaws
