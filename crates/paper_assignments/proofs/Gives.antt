-- Questions 12 and 14 answer no with their own numbers (13 is a question of bytes):
-- 12 is a test with its number, and 14 has its number at each clause.
use mathlib.Core.Path.{refl}
use mathlib.Core.List.{List, [], ◌∷◌}
use Prim.Native.Nat.{ℕ, suc}
use lib.Dec.{eqb}
use lib.ListN.{length}
use Rattle.std.specs.Prelude.{Err}
use Rattle.refusal.specs.Asked.{Gives}
use Rattle.refusal.proofs.Numbers.{question_gives}
use Rattle.lists.proofs.Tests.{cond_elim}
use Rattle.paper_circuit.specs.Gates.{Assignment}
use Rattle.paper_clauses.specs.Clauses.{Clause, meets_clause}
use Rattle.paper_assignments.specs.Calls.{ask_assignment, ask_clauses}

pub assignment_gives : (n : ℕ) (A : List ℕ) → Gives 12 (ask_assignment n A)
unfolding ask_assignment
assignment_gives n A = question_gives 12 0 (eqb (length A) n)

pub clauses_gives : (a : Assignment) (n : ℕ) (T : List Clause) → Gives 14 (ask_clauses a n T)
unfolding ask_clauses
clauses_gives a n [] = tt
clauses_gives a n (c ∷ T) =
    cond_elim (Gives 14) (meets_clause a c) {a = ask_clauses a (suc n) T} {b = Err (record { number = 14; place = n })}
    (λ e. clauses_gives a (suc n) T) (λ e. refl)
