pub mod Card
pub mod Demand
pub mod Accuracy
