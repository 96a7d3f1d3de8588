-- What is handed over to be written: a piece where it stands in the listing, what remains behind it, and the end.
use Rattle.std.specs.Prelude.{◌≡◌, Bool, true, List, ℕ, ◌≤◌, length, take, drop}
use Rattle.listing.specs.Text.{listing_of}

-- the piece is what the listing has behind its first `at` bytes
abbrev pub Stands : List ℕ → ℕ → List ℕ → Type 0
Stands f at piece = take (length piece) (drop at (listing_of f)) ≡ piece

-- behind the first `at` bytes of the listing, `rest` is to come
pub record Remains (f : List ℕ) (at : ℕ) (rest : List ℕ) : Type 0 where
  pub inside : at ≤ length (listing_of f)
  pub behind : drop at (listing_of f) ≡ rest

-- so many bytes are written, a beginning of the listing, and all of it where no write has failed
pub record Ends (f : List ℕ) (written : ℕ) (well : Bool) : Type 0 where
  pub beginning : written ≤ length (listing_of f)
  pub whole : well ≡ true → written ≡ length (listing_of f)
