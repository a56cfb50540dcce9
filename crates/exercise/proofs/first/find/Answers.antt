-- The arrays are as long as they were made, by a law: to count so many places is more than the prover can.
-- All else the search closes.
use Rattle.std.proofs.Common.{ℕ, sym}
use Rattle.std.proofs.lemmas.List.{length-replicate}
use Rattle.exercise.proofs.first.find.Goals as goal

pub slice_bounds-search-end : goal.slice_bounds-search-end
slice_bounds-search-end c = sym (length-replicate {A = ℕ} 524288 0)

pub slice_bounds-search-end-2 : goal.slice_bounds-search-end-2
slice_bounds-search-end-2 c = sym (length-replicate {A = ℕ} 524288 0)

pub slice_bounds-search-end-3 : goal.slice_bounds-search-end-3
slice_bounds-search-end-3 c = sym (length-replicate {A = ℕ} 81920 0)

pub slice_bounds-search-end-4 : goal.slice_bounds-search-end-4
slice_bounds-search-end-4 c = sym (length-replicate {A = ℕ} 81920 0)
