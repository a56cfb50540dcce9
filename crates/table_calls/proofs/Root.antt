-- After the nodes' places come the root's, the truth of row 0 on [0, k]:
-- writing them in turn is writing both at once.
use mathlib.Core.Path.{◌≡◌, ap}
use mathlib.Core.List.{List, ◌++◌}
use Prim.Native.Nat.{ℕ, ◌+◌}
use Rattle.lists.specs.Listing.{rows}
use Rattle.paper_clauses.specs.Entries.{Entry}
use Rattle.table_literals.specs.Written.{Room, Wrote, run_of}
use Rattle.table_literals.proofs.Written.{and_then, named, room_next}

-- the nodes' places, and then the root's, its variable being the one that the code has found
module _ (F : List Entry) (k : ℕ) {w s : ℕ} (e : w ≡ s) where
  root_same : F ++ rows 1 (run_of (w + k) 3) ≡ F ++ rows 1 (run_of (s + k) 3)
  root_same = ap (λ (w : ℕ). F ++ rows 1 (run_of (w + k) 3)) e

  pub root_room : {v m v' m' : List ℕ} {at at' : ℕ} → Room v m at (F ++ rows 1 (run_of (s + k) 3)) → Wrote v m at F v' m' at' → Room v' m' at' (rows 1 (run_of (w + k) 3))
  root_room r t = room_next r F (rows 1 (run_of (w + k) 3)) root_same t

  pub root_wrote : {v m v' m' v'' m'' : List ℕ} {at at' at'' : ℕ} → Wrote v m at F v' m' at' →
      Wrote v' m' at' (rows 1 (run_of (w + k) 3)) v'' m'' at'' → Wrote v m at (F ++ rows 1 (run_of (s + k) 3)) v'' m'' at''
  root_wrote t u = named root_same (and_then t u)
