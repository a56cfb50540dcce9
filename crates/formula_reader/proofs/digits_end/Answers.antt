-- The bytes so far are digits: they and the digits from there on are those from the beginning (Parts.antt).
use Rattle.std.proofs.Common.{◌∙◌, sym, ℕ, ◌-◌, List, length, take, drop, length-take, length-drop, arith, rules}
use Rattle.formula_reader.proofs.Parts.{digit_more, digit_none, digit_end, digits_from}
use Rattle.formula_reader.proofs.digits_end.Goals as goal

pub returns-then-not-is_digit : goal.returns-then-not-is_digit
returns-then-not-is_digit c =
    let a = c.args in
    omega (arith, digits_from a.text.now a.at, c.loop-n.invariant, digit_none (take (length a.text.now - a.at) (drop a.at a.text.now)) c.loop-n.n (search rules) (sym c.is_digit.ensures ∙ c.if-not-is_digit.true))

pub loop-n-preserved : goal.loop-n-preserved
loop-n-preserved c =
    let a = c.args in
    omega (arith, c.loop-n.invariant, digit_more (take (length a.text.now - a.at) (drop a.at a.text.now)) c.loop-n.n (search rules) (sym c.is_digit.ensures ∙ c.if-not-is_digit.false))

pub returns : goal.returns
returns c =
    let a = c.args in
    let q : List ℕ = take (length a.text.now - a.at) (drop a.at a.text.now) in
    omega (arith, digits_from a.text.now a.at, c.loop-n.invariant, digit_end q c.loop-n.n (search rules), c.loop-n-test.false, c.requires, length-drop a.at a.text.now, length-take (length a.text.now - a.at) (drop a.at a.text.now))
