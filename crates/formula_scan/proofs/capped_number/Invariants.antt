-- `capped_number` takes digit after digit: at each turn the value so far and the digits from there on
-- make the same number as from the beginning, up to the most.
use Rattle.std.proofs.Common.{◌≡◌, suc, ◌≤◌, drop}
use Rattle.formula_reader.specs.Parts.{value_from}
use Rattle.formula_scan.specs.Scans.{capped_at}
use Rattle.formula_scan.proofs.capped_number.Given as goal

abbrev pub invariant-loop-b : goal.invariant-loop-b
invariant-loop-b l = record {
  most : l.v ≤ suc l.most;
  same : capped_at l.most (value_from l.v (drop l.b-index l.b-items)) ≡ capped_at l.most (value_from 0 l.b-items);
}
