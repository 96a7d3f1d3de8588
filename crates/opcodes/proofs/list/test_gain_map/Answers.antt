use Rattle.std.proofs.Common.{◌≡◌, ℕ, true, false, sym, ap}
use Rattle.reading.specs.Reading.{pick}
use Rattle.opcodes.specs.Grid.{grid_of, fits_of}
use Rattle.opcodes.specs.Facts.OpcodeList.{tested}
use Rattle.opcodes.proofs.OpcodeLists.{own_fits}
use Rattle.opcodes.proofs.GainMaps.{legal_in, map_short, map_grid, map_illegal, map_other, map_read}
use Rattle.opcodes.proofs.list.test_gain_map.Goals as goal
use Rattle.opcodes.proofs.list.test_gain_map.Goals.{Else-not-fits}

pub returns-then-ps-lt76 : goal.returns-then-ps-lt76
unfolding pick
returns-then-ps-lt76 c =
    let a = c.args in
    ap (λ (n : ℕ). tested n a.i) (map_short a.size a.ps.now c.if-ps-lt76.true)

pub returns-then-not-fits : goal.returns-then-not-fits
unfolding pick
returns-then-not-fits c =
    let a = c.args in
    let g = c.grid_at-g in
    let h = c.if-ps-lt76.false in
    ap (λ (n : ℕ). tested n a.i)
    (map_grid a.size a.ps.now h (own_fits a.ps.now g.result 44 h g.ensures.by_index a.size false (sym c.if-not-fits.ensures)))

fit : (d : Else-not-fits) → fits_of d.args.size (grid_of d.args.ps.now) ≡ true
fit d =
    let g = d.grid_at-g in
    let a = d.args in
    own_fits a.ps.now g.result 44 d.if-ps-lt76.false g.ensures.by_index a.size true (sym d.if-not-fits.ensures)

pub returns-then-not-legal : goal.returns-then-not-legal
unfolding pick
returns-then-not-legal c =
    let a = c.args in
    ap (λ (n : ℕ). tested n a.i)
    (map_illegal a.size a.ps.now c.if-ps-lt76.false (fit (goal.at.returns-then-not-legal c).Else-not-fits) (sym c.if-not-legal.ensures))

pub count-n-requires : goal.count-n-requires
count-n-requires c =
    let l = legal_in c.args.ps.now (sym c.if-not-legal.ensures) in
    (c.if-ps-lt76.false, l.down.1, l.across.1)

pub returns-then-ps-n : goal.returns-then-ps-n
unfolding pick
returns-then-ps-n c =
    let a = c.args in
    let n = c.count-n in
    ap (λ (n : ℕ). tested n a.i)
    (map_other a.size a.ps.now c.if-ps-lt76.false (fit (goal.at.returns-then-ps-n c).Else-not-fits) (sym c.if-not-legal.ensures)
    n.result n.ensures.0 c.if-ps-n.true)

pub returns-then-gain_map_refused : goal.returns-then-gain_map_refused
unfolding pick
returns-then-gain_map_refused c =
    let a = c.args in
    let n = c.count-n in
    ap (λ (n : ℕ). tested n a.i)
    (map_read a.size a.ps.now c.if-ps-lt76.false (fit (goal.at.returns-then-gain_map_refused c).Else-not-fits) (sym c.if-not-legal.ensures)
    n.result n.ensures.0 c.if-ps-n.false true c.if-gain_map_refused.ensures)

pub returns : goal.returns
unfolding pick
returns c =
    let a = c.args in
    let n = c.count-n in
    ap (λ (n : ℕ). tested n a.i)
    (map_read a.size a.ps.now c.if-ps-lt76.false (fit (goal.at.returns c).Else-not-fits) (sym c.if-not-legal.ensures)
    n.result n.ensures.0 c.if-ps-n.false false c.if-gain_map_refused.ensures)
