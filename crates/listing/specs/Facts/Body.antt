-- What the listing's functions make of a text, and what they know of the file.
use Rattle.std.specs.Prelude.{ℕ, zero, suc, ◌+◌, ◌*◌, ◌≤◌, ◌≡◌, List, [], ◌++◌, Float, length, take, drop, Result, Ok, Err}
use Rattle.directory.specs.Refusal.{number_of, detail_of}
use Rattle.directory.specs.Out.{Out.refused, Out.is}
use Rattle.opcodes.specs.declared.grid.Size.{Size}
use Rattle.rows.specs.Facts.Part.{AllInUnit}
use Rattle.develop.specs.Facts.View.{Viewed}
use Rattle.develop.specs.declared.View.{View}
use Rattle.listing.specs.Text.{values_text, listed_of, body_text}
use Rattle.directory.specs.declared.refusal.Refusal.{Refusal}

-- a word stands behind the first `at` bytes of a text, and ends at `end`
abbrev pub Puts : List ℕ → ℕ → List ℕ → List ℕ → ℕ → Type 0
Puts old at word new end = (end ≡ at + length word) × (take end new ≡ take at old ++ word) × (length new ≡ length old)

-- h lines of m values each
unfoldable pub lines_text : ℕ → ℕ → List Float → List ℕ
lines_text m zero xs = []
lines_text m (suc h) xs = values_text (take m xs) ++ lines_text m h (drop m xs)

-- they fit in a text, 17 bytes to a value
abbrev pub LinesIn : ℕ → ℕ → List Float → List ℕ → Type 0
LinesIn m h xs text = (1 ≤ m) × (length xs ≡ h * m) × (17 * length xs ≤ length text) × AllInUnit xs

-- an accepted file that the program lists
pub record Listed (f : List ℕ) (v : View) : Type 0 where
  pub viewed : Viewed f v
  pub listed : is viewed.file ≡ listed_of f

-- there is room for a block of rows, and the file is as it was opened
abbrev pub Ready : List ℕ → View → List ℕ → List Float → Type 0
Ready f v text values = (835584 ≤ length text) × (49152 ≤ length values) × Listed f v

-- the block of `height` rows from `top` on is in the crop and in the room
abbrev pub BlockIn : Size → ℕ → ℕ → Type 0
BlockIn z top height = (1 ≤ height) × (top + height ≤ z.rows) × (height * (z.columns * z.samples) ≤ 49152)

-- the lines of the crop's rows from its row `top` on
abbrev pub rows_from : List ℕ → ℕ → List ℕ
rows_from f top = body_text f top (listed_of f)

-- the file as the program opened it
abbrev pub ListedIs : List ℕ → Result View Refusal → Type 0
ListedIs f (Err r) = refused (number_of r) (detail_of r) ≡ listed_of f
ListedIs f (Ok v) = Listed f v
