-- What only carries facts from one function to another: no promise of a call rests on it.
pub mod View
pub mod Fill
pub mod Tabled
