-- The simplest levels, for worked examples: a mosaic of so many active rows and columns, no deltas.
use Rattle.std.specs.Prelude.{List, [], ◌∷◌, ℕ, ℤ}
use Rattle.levels.specs.Levels.{Levels}

-- a table, one cell, or none where BlackLevel is absent, and a white level
abbrev pub plain_through : List ℕ → ℕ → ℕ → List ℤ → ℕ → Levels
plain_through table rows columns cells white =
    record {
      rows = rows;
      columns = columns;
      table = table;
      repeat_rows = 1;
      repeat_columns = 1;
      samples = 1;
      cells = cells;
      column_deltas = [];
      row_deltas = [];
      whites = white ∷ [];
    }

-- without a table
abbrev pub plain : ℕ → ℕ → List ℤ → ℕ → Levels
plain rows columns cells white = plain_through [] rows columns cells white
