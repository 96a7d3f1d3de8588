-- What holds of an accepted value.
use Rattle.directory.specs.Names.{black_level_delta_h, black_level_delta_v}
use Rattle.std.specs.Prelude.{List, ℕ, length, Result, Ok, Err}
use Rattle.reading.specs.declared.number.Order.{Order}
use Rattle.directory.specs.Facts.Tag.{PlacedValues, PlacedValues-prop}
use Rattle.rawtags.specs.Facts.Repeat.{RepeatWithin, RepeatWithin-prop}
use Rattle.rawtags.specs.Black.{black_rule, delta_rule}
use Rattle.rawtags.specs.White.{white_rule, table_rule}
use Rattle.rawtags.specs.Facts.White.{WhitesWithin, WhitesWithin-prop}
use Rattle.rawtags.specs.declared.level_tags.LevelTags.{LevelTags}
use Rattle.directory.specs.declared.refusal.Refusal.{Refusal}

pub record LevelTagsWithin (f : List ℕ) (o : Order) (s rows columns : ℕ) (v : LevelTags) : Type 0 where
  pub table : PlacedValues (length f) table_rule v.table
  pub repeat : RepeatWithin v.repeat
  pub black : PlacedValues (length f) (black_rule v.repeat s) v.black
  pub column_deltas : PlacedValues (length f) (delta_rule black_level_delta_h columns) v.column_deltas
  pub row_deltas : PlacedValues (length f) (delta_rule black_level_delta_v rows) v.row_deltas
  pub white : WhitesWithin f o (white_rule s) v.white

pub LevelTagsWithin-prop : (f : List ℕ) (o : Order) (s rows columns : ℕ) (v : LevelTags) → IsProp (LevelTagsWithin f o s rows columns v)
LevelTagsWithin-prop f o s rows columns v x y = λ i.
    record {
      table = PlacedValues-prop (length f) table_rule v.table x.table y.table i;
      repeat = RepeatWithin-prop v.repeat x.repeat y.repeat i;
      black = PlacedValues-prop (length f) (black_rule v.repeat s) v.black x.black y.black i;
      column_deltas = PlacedValues-prop (length f) (delta_rule black_level_delta_h columns) v.column_deltas x.column_deltas y.column_deltas i;
      row_deltas = PlacedValues-prop (length f) (delta_rule black_level_delta_v rows) v.row_deltas x.row_deltas y.row_deltas i;
      white = WhitesWithin-prop f o (white_rule s) v.white x.white y.white i;
    }

abbrev pub LevelTagsIn : List ℕ → Order → ℕ → ℕ → ℕ → Result LevelTags Refusal → Type 0
LevelTagsIn f o s rows columns (Err e) = Unit {0}
LevelTagsIn f o s rows columns (Ok v) = LevelTagsWithin f o s rows columns v
