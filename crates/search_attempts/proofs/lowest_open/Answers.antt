-- `lowest_open` goes from variable to variable:
-- none of those passed has the value 0 (Values.antt).
use Rattle.std.proofs.Common.{◌∙◌, sym, get_or-take, rules}
use Rattle.search_attempts.proofs.Values.{found_lowest, found_none}
use Rattle.search_attempts.proofs.lowest_open.Goals as goal

pub returns-then-value-eq-OPEN : goal.returns-then-value-eq-OPEN
returns-then-value-eq-OPEN c =
    let a = c.args in
    found_lowest a.values.now c.requires.1 c.loop-x.x c.loop-x.invariant a.channels (search rules)
    (sym (get_or-take a.channels a.values.now c.loop-x.x 0 (search rules)) ∙ c.if-value-eq-OPEN.true)

pub returns : goal.returns
returns c = found_none c.args.values.now c.requires.1 c.loop-x.x c.loop-x.invariant c.args.channels (search rules)
