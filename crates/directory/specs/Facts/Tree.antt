-- What holds of an accepted value, and what the functions of the walk answer as `Out`.
use Rattle.std.specs.Prelude.{List, ℕ, ◌+◌, ◌*◌, ◌≤◌, ◌<◌, length, Result, Ok, Err, Option, Some, None}
use Rattle.reading.specs.Facts.Number.{Wide}
use Rattle.directory.specs.Refusal.{number_of, detail_of}
use Rattle.directory.specs.Out.{Out, Out.refused, Out.is}
use Rattle.directory.specs.Facts.Shape.{Tested}
use Rattle.directory.specs.declared.refusal.Refusal.{Refusal}
use Rattle.directory.specs.declared.tree.Children.{Children}
use Rattle.directory.specs.declared.tree.Walk.{Walk}
use Rattle.directory.specs.declared.tree.Walk.TheVariants as walk
use Rattle.directory.specs.declared.tree.Roots.{Roots}
use Rattle.directory.specs.Tree.{Seen, Seen.raw_one, Seen.parent, Walked, Walked.raw, Walked.left}

abbrev pub look_out : Result (Option Children) Refusal → Out Seen
look_out (Err r) = refused (number_of r) (detail_of r)
look_out (Ok None) = is raw_one
look_out (Ok (Some c)) = is (parent c.place c.size c.count)

abbrev pub walk_out : Result Walk Refusal → Out Walked
walk_out (Err r) = refused (number_of r) (detail_of r)
walk_out (Ok (walk.Raw d)) = is (raw d)
walk_out (Ok (walk.Left v)) = is (left v)

-- the offsets of the children lie in the file
pub record ChildrenIn (len : ℕ) (c : Children) : Type 0 where
  pub most : c.count ≤ 16
  pub inside : c.place + c.size * c.count ≤ len
  pub sized : 0 < c.count → Wide c.size

abbrev pub LookIn : ℕ → Result (Option Children) Refusal → Type 0
LookIn len (Err r) = Unit {0}
LookIn len (Ok None) = Unit {0}
LookIn len (Ok (Some c)) = ChildrenIn len c

abbrev pub WalkIn : List ℕ → Result Walk Refusal → Type 0
WalkIn f (Err r) = Unit {0}
WalkIn f (Ok (walk.Raw d)) = Tested f d
WalkIn f (Ok (walk.Left v)) = Unit {0}

pub record Rooted (f : List ℕ) (r : Roots) : Type 0 where
  pub size : length f ≤ 67108864
  pub first : Tested f r.first
  pub raw : Tested f r.raw

abbrev pub TreeIn : List ℕ → Result Roots Refusal → Type 0
TreeIn f (Err r) = Unit {0}
TreeIn f (Ok r) = Rooted f r
