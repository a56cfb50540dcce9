-- By the rule the gate is a pattern over its variable and its inputs (Gates.antt);
-- the other rules have no block of one line, which is found without an answer.
use native.Mathlib.Omega.{arith}
use Rattle.table_blocks.proofs.Positions.{gate_by_lem, channel_fits, letter_fits}
use Rattle.search_patterns.proofs.Steps.{patterns}
use Rattle.search_gate.proofs.Known.{constant_known}
use Rattle.search_walks.proofs.Gates.{goes_by}
use Rattle.search_walks.proofs.inputs_of.Goals as goal

pub overflow_mul-result : goal.overflow_mul-result
overflow_mul-result c =
    omega (arith, channel_fits c.args.x c.args.c c.requires.1 (omega (arith, c.requires.0.channels)), letter_fits c.in-Letter.is c.requires.0.number)

pub overflow_add-result : goal.overflow_add-result
overflow_add-result c =
    omega (arith, channel_fits c.args.x c.args.c c.requires.1 (omega (arith, c.requires.0.channels)), letter_fits c.in-Letter.is c.requires.0.number)

pub overflow_add-result-in-Letter : goal.overflow_add-result-in-Letter
overflow_add-result-in-Letter c =
    omega (arith, channel_fits c.args.x c.args.c c.requires.1 (omega (arith, c.requires.0.channels)), letter_fits c.in-Letter.is c.requires.0.number)

pub returns-in-Fixed : goal.returns-in-Fixed
returns-in-Fixed c =
    let s = c.args in let g = constant_known s.v c.constant.ensures in
    goes_by _ _ _ _ _ (gate_by_lem s.c s.k s.block s.x 0 0 s.x c.in-Fixed.is) _ g (λ l v i. (v, v))

pub returns-in-Letter : goal.returns-in-Letter
returns-in-Letter c =
    let s = c.args in
    goes_by _ _ _ _ _ (gate_by_lem s.c s.k s.block s.x 0 0 s.x c.in-Letter.is) _ (patterns _ _ 0 0).0 (λ l v i. (i, v))

pub returns-in-Negation : goal.returns-in-Negation
returns-in-Negation c =
    let s = c.args in
    goes_by _ _ _ _ _ (gate_by_lem s.c s.k s.block s.x 0 0 s.x c.in-Negation.is) _ (patterns _ _ 0 0).1 (λ l v i. (i, v))

pub returns-in-And : goal.returns-in-And
returns-in-And c =
    let s = c.args in
    goes_by _ _ _ _ _ (gate_by_lem s.c s.k s.block s.x 0 0 s.x c.in-And.is) _ (patterns _ _ _ 0).2 (λ l v i. i)

pub returns-in-Or : goal.returns-in-Or
returns-in-Or c =
    let s = c.args in
    goes_by _ _ _ _ _ (gate_by_lem s.c s.k s.block s.x 0 0 s.x c.in-Or.is) _ (patterns _ _ _ 0).3 (λ l v i. i)
