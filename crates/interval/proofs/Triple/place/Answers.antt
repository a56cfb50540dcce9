-- The triples before this one are those of the starts before, those of the shorter intervals from its start on,
-- as many as intervals in as many rows at the end, and those of its interval that are chopped earlier.
use mathlib.Core.Path.{◌≡◌, ap, ◌∙◌}
use Prim.Native.Nat.{suc, ◌+◌, ◌-◌, ◌<◌}
use native.Mathlib.Omega.{arith}
use lib.ListN.{get_or}
use Rattle.interval.specs.Places.{triple_count_of, triple_place_of}
use Rattle.interval.specs.Rows.{start_of}
use Rattle.interval.specs.declared.Triple.{Triple}
use Rattle.interval.proofs.Rows.{split_count, triple_in_row}
use Rattle.interval.proofs.Laws.{triples_numbered, counts_at_32}
use Rattle.interval.proofs.Triple.place.Goals as goal
use Rattle.interval.proofs.Triple.place.Goals.{After-all}

-- what is read from the two tables, and the place that it makes
last_rows : (c : After-all) → let a = c.args in get_or a.rows.now (a.k + 1 - a.steps) 0 ≡ start_of a.k (suc a.k - a.steps)
last_rows c =
    let a = c.args in let e : a.k + 1 - a.steps ≡ suc a.k - a.steps = omega arith in
    c.requires.3.at (a.k + 1 - a.steps) (omega arith) ∙ ap (start_of a.k) e

placed : (c : After-all) → let a = c.args in let r = get_or a.starts.now a.i 0 + (c.all.result - get_or a.rows.now (a.k + 1 - a.steps) 0) + a.cut in
    (r ≡ triple_place_of a.k (record { i = a.i; m = a.i + a.cut; j = a.i + a.steps })) × (r < triple_count_of a.k)
placed c =
    let a = c.args in
    let t : Triple = record { i = a.i; m = a.i + a.cut; j = a.i + a.steps } in
    let e = triple_in_row a.k a.i a.steps a.cut c.requires.0 c.requires.1 in
    let r = c.requires.4.at a.i (omega (arith, c.requires)) in
    let b = (triples_numbered a.k).below t (omega (arith, c.requires)) in
    (omega (arith, e, r, last_rows c, c.all.ensures), omega (arith, e, r, last_rows c, c.all.ensures, b))

pub overflow_sub-shorter-2 : goal.overflow_sub-shorter-2
overflow_sub-shorter-2 c = let a = c.args in omega (arith, last_rows (goal.at.overflow_sub-shorter-2 c).After-all, c.all.ensures, split_count a.k (suc a.k - a.steps) (omega arith))

pub overflow_add-result : goal.overflow_add-result
overflow_add-result c = omega (arith, placed (goal.at.overflow_add-result c).After-all, counts_at_32 c.args.k c.requires.2)

pub overflow_add-result-2 : goal.overflow_add-result-2
overflow_add-result-2 c = omega (arith, placed (goal.at.overflow_add-result-2 c).After-all, counts_at_32 c.args.k c.requires.2)

pub returns : goal.returns
returns c = placed (goal.at.returns c).After-all
