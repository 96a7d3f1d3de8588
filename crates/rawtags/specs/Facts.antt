-- What only carries facts from one function to another: no promise of a call rests on it.
pub mod Area
pub mod Crop
pub mod Frame
pub mod Layout
pub mod LevelTags
pub mod Pattern
pub mod Raw
pub mod Repeat
pub mod Strips
pub mod White
