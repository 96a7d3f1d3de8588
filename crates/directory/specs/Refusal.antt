-- The refusals by number, and their details: a tag, a place in the opcode list, or 0.
use Rattle.std.specs.Prelude.{ℕ}
use Rattle.directory.specs.declared.refusal.Refusal.{Refusal}
use Rattle.directory.specs.declared.refusal.Refusal.TheVariants as refusal

abbrev pub number_of : Refusal → ℕ
number_of refusal.FileSize = 1
number_of refusal.Signature = 2
number_of refusal.Shape = 3
number_of (refusal.Illegal tag) = 4
number_of (refusal.Absent tag) = 5
number_of refusal.Tree = 6
number_of refusal.Version = 7
number_of (refusal.NotCarried tag) = 8
number_of refusal.WhiteLevel = 9
number_of (refusal.Malformed place) = 10
number_of (refusal.Compulsory place) = 11
number_of (refusal.NotFinite place) = 12
number_of refusal.Outside = 13
number_of refusal.SliceLength = 14
number_of refusal.Planes = 15

abbrev pub detail_of : Refusal → ℕ
detail_of refusal.FileSize = 0
detail_of refusal.Signature = 0
detail_of refusal.Shape = 0
detail_of (refusal.Illegal tag) = tag
detail_of (refusal.Absent tag) = tag
detail_of refusal.Tree = 0
detail_of refusal.Version = 0
detail_of (refusal.NotCarried tag) = tag
detail_of refusal.WhiteLevel = 0
detail_of (refusal.Malformed place) = place
detail_of (refusal.Compulsory place) = place
detail_of (refusal.NotFinite place) = place
detail_of refusal.Outside = 0
detail_of refusal.SliceLength = 0
detail_of refusal.Planes = 0
