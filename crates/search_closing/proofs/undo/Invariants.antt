-- What is left to take back are the first places of the part, and taking them back gives what the whole gives at the start.
use Rattle.std.proofs.Common.{◌≡◌, ℕ, ◌+◌, ◌-◌, ◌≤◌, ◌<◌, length, get_or}
use Rattle.search_closing.specs.Values.{undone}
use Rattle.search_closing.proofs.undo.Given as goal

abbrev pub invariant-loop-v : goal.invariant-loop-v
invariant-loop-v l =
    let rest = l.v-iterator.iter.rest.now in record {
      left : length rest ≤ l.to - l.from;
      places : (j : ℕ) → j < length rest → get_or rest j 0 ≡ get_or l.trail (l.from + j) 0;
      back : undone l.trail l.from (length rest) l.values ≡ undone l.trail l.from (l.to - l.from) l.initial.values;
    }
