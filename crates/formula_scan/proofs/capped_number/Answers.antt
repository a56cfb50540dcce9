-- `capped_number` takes digit after digit: at each turn the value so far and the digits from there on
-- make the same number as from the beginning, up to the most (Loops.antt).
use Rattle.std.proofs.Common.{◌∙◌, sym, ap, ℕ, ◌+◌, ◌-◌, List, length, take, drop, rules}
use Rattle.formula_reader.specs.Parts.{value_from}
use Rattle.formula_scan.specs.Scans.{capped_at}
use Rattle.formula_scan.proofs.Loops.{number_more}
use Rattle.formula_scan.proofs.capped_number.Goals as goal

pub loop-b-preserved : goal.loop-b-preserved
loop-b-preserved c =
    let w = c.loop-b in
    let a = c.args in
    let q : List ℕ = take (length a.text.now - c.min.result) (drop c.min.result a.text.now) in
    record {
      most = c.with_digit-v.ensures.1;
      same =
          ap (λ (n : ℕ). capped_at a.most (value_from n (drop (w.b-index + 1) q))) c.with_digit-v.ensures.0
          ∙ number_more a.most q w.b-index w.v (search rules) (sym c.is_digit.ensures ∙ c.if-not-is_digit.false) ∙ w.invariant.same;
    }
