-- The literal of v, the inputs but the last, and the last with the closing mark,
-- one list after another (Written.antt).
use Rattle.table_literals.proofs.Written.{and_then, room_first, room_next}
use Rattle.paper_clauses.specs.Entries.{Entry, entry}
use Rattle.table_literals.specs.Written.{run_of}
use Rattle.lists.specs.Listing.{rows}
use mathlib.Core.List.{List, [], ◌∷◌, ◌++◌}
use mathlib.Core.Path.{refl}
use Prim.Native.Nat.{ℕ, ◌+◌, ◌-◌}
use native.Mathlib.Omega.{arith}
use borrow.Author.Rules.{rules}
use Rattle.table_literals.proofs.put_long.Goals as goal

abbrev inputs : ℕ → ℕ → List Entry
inputs w n = rows (n - 1) (run_of w 1)

abbrev last : ℕ → ℕ → List Entry
last w n = entry (w + (n - 1)) 3 ∷ []

pub put_run-d-requires : goal.put_run-d-requires
put_run-d-requires c =
    let a = c.args in record {
      room = room_first (room_next c.requires.room (entry a.v 0 ∷ []) (inputs a.w a.n ++ last a.w a.n) refl (c.put-b.ensures _ refl refl)) (inputs a.w a.n)
          (last a.w a.n) refl;
      n_bound = search rules;
    }

pub put-requires : goal.put-requires
put-requires c =
    let a = c.args in
    let r = room_next c.requires.room (entry a.v 0 ∷ []) (inputs a.w a.n ++ last a.w a.n) refl (c.put-b.ensures _ refl refl) in
    let t = room_next r (inputs a.w a.n) (last a.w a.n) refl c.put_run-d.ensures in
    (omega (arith, t.variables), omega (arith, t.marks))

pub returns : goal.returns
returns c =
    let a = c.args in
    and_then (c.put-b.ensures (entry a.v 0 ∷ []) refl refl) (and_then c.put_run-d.ensures (c.put.ensures (last a.w a.n) refl refl))
