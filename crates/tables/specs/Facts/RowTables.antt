-- The tables of a row's cells, and samples looked up in them.
use Rattle.std.specs.Prelude.{◌≡◌, List, [], ℕ, ◌+◌, ◌/◌, ◌%◌, ◌≤◌, ◌<◌, min, Float, length, get_or}
use Rattle.std.specs.Float.{nan}
use Rattle.levels.specs.Levels.{Levels}
use Rattle.tables.specs.Tables.{CellTable}

-- what a byte finds in a table
abbrev pub found : List Float → List ℕ → ℕ → Float
found table bytes k = get_or table (get_or bytes k 0) nan

-- what the k-th byte of a row finds in the tables of n columns, which stand from a first one on and come again
abbrev pub found_along : List (List Float) → ℕ → ℕ → List ℕ → ℕ → Float
found_along tables first n bytes k = found (get_or tables (first + k % n) []) bytes k

-- the tables of the cells that a part of row r from column l on meets
pub record RowTables (v : Levels) (r l len : ℕ) (tables : List (List Float)) (first : ℕ) : Type 0 where
  pub inside : first + min v.repeat_columns len ≤ length tables
  pub holds : (c : ℕ) → c < min v.repeat_columns len → CellTable v r (l + c) (get_or tables (first + c) [])

-- the numbers x i to x (i + 3) are what four bytes find, each in a table of its own
pub record FourFound (x : ℕ → Float) (first second third fourth : List Float) (bytes : List ℕ) (i : ℕ) : Type 0 where
  pub one : found first bytes i ≡ x i
  pub two : found second bytes (i + 1) ≡ x (i + 1)
  pub three : found third bytes (i + 2) ≡ x (i + 2)
  pub four : found fourth bytes (i + 3) ≡ x (i + 3)

-- a word's bytes are the four from the i-th on
pub record WordIs (word : ℕ) (bytes : List ℕ) (i : ℕ) : Type 0 where
  pub one : word % 256 ≡ get_or bytes i 0
  pub two : word / 256 % 256 ≡ get_or bytes (i + 1) 0
  pub three : word / 65536 % 256 ≡ get_or bytes (i + 2) 0
  pub four : word / 16777216 ≡ get_or bytes (i + 3) 0
