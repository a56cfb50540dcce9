-- The tree of tries comes to what the limit leaves of the tree,
-- and the recording is read from the values found (Drawn.antt).
use mathlib.Core.Path.{ap}
use Prim.Native.Nat.{ℕ, ◌*◌}
use borrow.Author.Rules.{rules}
use Rattle.search_draw.proofs.Drawn.{drawn_none, drawn_found, drawn_spent}
use Rattle.search_draw.proofs.draw.Goals as goal

pub start-requires : goal.start-requires
start-requires c = record { on_ground = c.requires.on_ground; tabled = c.requires.tabled; values_in_bounds = (c.requires.values_in_bounds.0, c.requires.values_in_bounds.1) }

pub put_recording-requires : goal.put_recording-requires
put_recording-requires c =
    let g = c.requires.on_ground in let n = c.requires.values_in_bounds.2 in
    search (g.channels, g.steps, g.total, n, ap (λ (n : ℕ). n * c.args.wiring.now.c) n, c.start.auto.values, rules)

pub returns-in-Dead : goal.returns-in-Dead
returns-in-Dead c = drawn_none c.start.ensures _ _ _ c.in-Dead.is

pub returns-in-Found : goal.returns-in-Found
returns-in-Found c =
    drawn_found c.start.ensures _ _ c.args.recording.now c.in-Found.is c.requires.values_in_bounds.2 c.put_recording.ensures

pub returns-in-Spent : goal.returns-in-Spent
returns-in-Spent c = drawn_spent c.start.ensures _ _ _ c.in-Spent.is
