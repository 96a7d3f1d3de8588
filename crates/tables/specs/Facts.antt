-- What only carries facts from one function to another: no promise of a call rests on it.
pub mod RowTables
