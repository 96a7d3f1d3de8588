-- The card: "active rows, active columns, samples per pixel, corrections kept, corrections skipped", and the crop.
use Rattle.std.specs.Prelude.{ℕ, List, Result, Ok, Err}
use Rattle.directory.specs.Out.{Out, Out.refused, Out.is}
use Rattle.opcodes.specs.OpcodeList.{kept_in, skipped_in}
use Rattle.demand.specs.declared.card.FileCard.{FileCard}
use Rattle.directory.specs.Refusal.{number_of, detail_of}
use Rattle.directory.specs.declared.refusal.Refusal.{Refusal}
use Rattle.rawtags.specs.declared.crop.Crop.{Crop}
use Rattle.develop.specs.Calls.{Opened, opened, size_of, tags_of}

-- number, detail and five values, and the crop
pub record CardAnswer : Type 0 where
  pub number : ℕ
  pub detail : ℕ
  pub rows : ℕ
  pub columns : ℕ
  pub samples : ℕ
  pub kept : ℕ
  pub skipped : ℕ
  pub crop : Crop

abbrev pub no_crop : Crop
no_crop = record { left = 0; top = 0; columns = 0; rows = 0 }

-- "A refused card holds five zeros", and "has zeros here too"
abbrev pub refused_card : ℕ → ℕ → CardAnswer
refused_card n d = record { number = n; detail = d; rows = 0; columns = 0; samples = 0; kept = 0; skipped = 0; crop = no_crop }

-- what is shown of a card with a number and a detail
abbrev pub card_shown : ℕ → ℕ → FileCard → CardAnswer
card_shown n d c =
    record {
      number = n;
      detail = d;
      rows = c.rows;
      columns = c.columns;
      samples = c.samples;
      kept = c.kept;
      skipped = c.skipped;
      crop = c.crop;
    }

-- the answer of a call
abbrev pub card_with : Result FileCard Refusal → CardAnswer
card_with (Ok c) = card_shown 0 0 c
card_with (Err r) = refused_card (number_of r) (detail_of r)

abbrev pub card_of : Out Opened → CardAnswer
card_of (refused n d) = refused_card n d
card_of (is o) =
    record {
      number = 0;
      detail = 0;
      rows = (size_of o.picture).rows;
      columns = (size_of o.picture).columns;
      samples = (size_of o.picture).samples;
      kept = kept_in o.opcodes;
      skipped = skipped_in o.opcodes;
      crop = (tags_of o).crop;
    }

abbrev pub card_call : List ℕ → CardAnswer
card_call f = card_of (opened f)
