-- What the queue goes by is made, and the tree of tries of the parts lent is the formula's (Arrays.antt).
-- The tables' lengths are of the most steps that there are.
use mathlib.Core.Path.{refl, sym}
use native.Mathlib.Omega.{arith}
use lib.Seq.{length-take-le}
use Rattle.interval.proofs.Laws.{counts_at_32}
use Rattle.search_lent.proofs.Arrays.{root_rows, on_ground, parts_fit, search_known}
use Rattle.search_lent.proofs.search_lent.Goals as goal

pub put_seats-requires : goal.put_seats-requires
put_seats-requires c = (c.requires.c_le_max_channels.1, c.requires.measured.low, refl)

pub put_parents-requires : goal.put_parents-requires
put_parents-requires c =
    let p = c.requires.c_le_max_channels in let r = root_rows _ _ p.3.0 p.3.1.is c.requires.measured in (r.0, p.2, r.1, refl)

pub put_tables-requires : goal.put_tables-requires
put_tables-requires c =
    let k = c.requires.c_le_max_channels.1 in (k, (counts_at_32 _ k).0, omega (arith, k), omega (arith, k))

pub slice_bounds-draw-end : goal.slice_bounds-draw-end
slice_bounds-draw-end c = c.requires.variables_in_bounds.0

pub slice_bounds-draw-end-2 : goal.slice_bounds-draw-end-2
slice_bounds-draw-end-2 c = sym (length-take-le _ _ c.requires.variables_in_bounds.0)

pub slice_bounds-draw-end-3 : goal.slice_bounds-draw-end-3
slice_bounds-draw-end-3 c = c.requires.variables_in_bounds.1

pub slice_bounds-draw-end-4 : goal.slice_bounds-draw-end-4
slice_bounds-draw-end-4 c = sym (length-take-le _ _ c.requires.variables_in_bounds.1)

pub slice_bounds-draw-end-5 : goal.slice_bounds-draw-end-5
slice_bounds-draw-end-5 c = c.requires.variables_in_bounds.2

pub slice_bounds-draw-end-6 : goal.slice_bounds-draw-end-6
slice_bounds-draw-end-6 c = sym (length-take-le _ _ c.requires.variables_in_bounds.2)

pub draw-requires : goal.draw-requires
draw-requires c =
    let p = c.requires.c_le_max_channels in let h = c.requires.variables_in_bounds in let a = c.args in
    record {
      on_ground = on_ground _ _ p.3.0 p.3.1.is c.requires.measured a.values.now a.trail.now a.recording.now h.0 h.1 h.2 p.3.1.letters p.0 p.1 p.2
          c.put_seats.ensures c.put_parents.ensures;
      tabled = (c.put_tables.ensures, c.all.ensures.0);
      values_in_bounds = parts_fit _ _ p.3.0 p.3.1.is c.requires.measured a.values.now a.trail.now a.recording.now h.0 h.1 h.2
          (omega arith);
    }

pub returns : goal.returns
returns c =
    let h = c.requires.variables_in_bounds in
    λ f e. search_known _ _ f e c.requires.measured c.args.values.now c.args.trail.now c.args.recording.now h.0 h.1 h.2 _ c.draw.ensures
