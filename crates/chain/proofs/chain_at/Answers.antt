use mathlib.Core.Path.{sym, ap, subst, ◌∙◌}
use lib.Ieee.{Float}
use lib.ListN.{length}
use Rattle.levels.specs.Level.{scaled_of}
use Rattle.levels.specs.declared.LevelNumbers.{LevelNumbers}
use Rattle.raw.specs.Sample.{ActiveIn}
use Rattle.raw.specs.declared.front.Picture.{Picture}
use Rattle.develop.proofs.Windows.{viewed_sized, viewed_read, viewed_list}
use Rattle.chain.specs.Chain.{slices}
use Rattle.chain.specs.Facts.Links.{OpcodesIn, covered_of}
use Rattle.chain.proofs.ChainLaws.{numbers_unit, room_told, opcodes_in, viewed_numbers, chain_is}
use borrow.Author.Rules.{rules}
use Rattle.chain.proofs.chain_at.Goals as goal
use Rattle.chain.proofs.chain_at.Goals.{After-opcodes_of-opcodes}

-- the opcodes that were found
found : (k : After-opcodes_of-opcodes) → let a = k.args in
    OpcodesIn a.file.now k.opcodes_of-opcodes.result
found k =
    let f = k.args.file.now in
    let v = k.args.view in
    opcodes_in f v.size v.picture.raw.tags.list _ k.requires.viewed.0.file.opcodes k.opcodes_of-opcodes.ensures (viewed_read f v k.requires.viewed.0)
    (viewed_sized f v k.requires.viewed.0)

pub opcodes_of-opcodes-requires : goal.opcodes_of-opcodes-requires
opcodes_of-opcodes-requires c =
    viewed_list c.args.file.now c.args.view c.requires.viewed.0

pub cover-covering-requires : goal.cover-covering-requires
cover-covering-requires c =
    let k = (goal.at.cover-covering-requires c).After-opcodes_of-opcodes in
    let a = c.args in
    let b = room_told (length a.places.now) (length a.ids.now) (length a.«before».now) (length a.after.now) (length a.skipped.now)
    c.requires.skipped_value in
    let u = numbers_unit a.file.now a.view.picture.order a.view.picture.raw.tags _ a.spot.row.0 a.spot.column.0
    a.spot.plane in record {
      opcodes_in = (found k, rw (c.scaled-x.ensures, c.numbers_at-numbers.ensures) u);
      in_bounds = (b.0, b.1, b.2, b.3);
    }

pub skip-count-requires : goal.skip-count-requires
skip-count-requires c =
    let a = c.args in
    let b = room_told (length a.places.now) (length a.ids.now) (length a.«before».now) (length a.after.now) (length a.skipped.now)
    c.requires.skipped_value in
    (found (goal.at.skip-count-requires c).After-opcodes_of-opcodes, b.4)

pub returns : goal.returns
returns c =
    let n = c.numbers_at-numbers in
    let a = c.args in
    let f = a.file.now in
    let r = a.spot.row.0 in
    let l = a.spot.column.0 in
    let p = a.spot.plane in
    λ q.
    let os = q.file.opcodes in
    let e = c.opcodes_of-opcodes.ensures.read os (viewed_read f a.view q) in
    let m = n.ensures ∙ viewed_numbers f a.view q r l p in
    let x = c.scaled-x.ensures ∙ ap (λ (z : LevelNumbers). scaled_of z.level) m in
    let t = subst (λ (u : Picture). ActiveIn u.raw.tags r l p) (sym q.picture) c.requires.viewed.1 in
    let old = slices a.places.now a.ids.now a.«before».now a.after.now a.skipped.now in
    rw m (chain_is f q.file r l p t _ _ old
    (c.cover-covering.ensures os e
    ∙ ap (λ (y : Float). covered_of os r l p y a.places.now a.ids.now a.«before».now a.after.now) x)
    (c.skip-count.ensures os e))
