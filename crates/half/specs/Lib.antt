pub mod Half
pub mod Facts
