-- `holds_on` reads the root's table at the interval's place,
-- where it has 1 exactly where the formula is true.
use Rattle.interval.specs.Places.{place_of}
use Rattle.paper_meaning.proofs.Words.{high_bit}
use Prim.Native.Nat.{ℕ, ◌+◌, ◌-◌}
use lib.Dec.{eqb}
use lib.ListN.{length, get_or}
use mathlib.Core.Path.{◌≡◌, ap, ◌∙◌}
use native.Mathlib.Omega.{arith}
use Rattle.truth_calls.proofs.holds_on.Goals as goal

pub returns : goal.returns
returns c =
    let k = length c.args.recording.now in let v = c.args.v in
    let j : v.i + (v.j - v.i) ≡ v.j = omega (arith, c.requires.1.starts) in
    λ f l w.
    ap (λ (x : ℕ). eqb (get_or c.table_at-t.result x 0) 1) (c.place.ensures.0 ∙ ap (λ (j : ℕ). place_of k (record { i = v.i; j = j })) j)
    ∙ ap (λ (b : ℕ). eqb b 1) ((c.table_at-t.ensures f l w).at _ c.requires.1) ∙ high_bit _
