-- Each rule's gate is its definition's; a position inside the block is an interval or a triple of k steps,
-- so the gates of intervals and triples may be asked for (Positions.antt).
use Rattle.table_blocks.proofs.Positions.{chop_position, chop_before, throughout_position, level_position, triple_position, gate_by_lem, letter_fits}
use native.Mathlib.Omega.{arith}
use mathlib.Core.Path.{ap, ap₂, ◌∙◌}
use Rattle.paper_circuit.specs.declared.Gate.TheVariants.{Copy, AnyOf}
use Rattle.table_blocks.proofs.gate_at.Goals as goal

pub channel_variable-requires : goal.channel_variable-requires
channel_variable-requires c =
    omega (arith, letter_fits c.in-Letter.is c.requires.bounded.0.number, c.requires.bounded.0.channels, c.requires.bounded.1)

pub overflow_add-result-in-Chop : goal.overflow_add-result-in-Chop
overflow_add-result-in-Chop c =
    omega (arith, chop_before c.args.p c.requires.placed.0 (c.requires.placed.1 c.in-Chop.is) c.in-Chop.is c.requires.bounded.0.steps, c.requires.bounded.0.left)

pub overflow_add-result-in-Chop-2 : goal.overflow_add-result-in-Chop-2
overflow_add-result-in-Chop-2 c = omega (arith, chop_position c.requires.placed.0 c.in-Chop.is, c.requires.bounded.0.steps)

pub level_gate-requires : goal.level_gate-requires
level_gate-requires c =
    let p = level_position c.requires.placed.0 c.in-Duration.is in
    (c.requires.bounded.0.steps, c.requires.bounded.2, c.requires.bounded.0.first, c.requires.bounded.0.left, omega arith, p.0, p.1)

pub throughout_gate-requires : goal.throughout_gate-requires
throughout_gate-requires c = omega (arith, throughout_position c.requires.placed.0 c.in-Throughout.is)

pub triple_gate-requires : goal.triple_gate-requires
triple_gate-requires c =
    record { k_le_max_steps = omega (arith, triple_position c.requires.placed.0 c.in-Cut.is); rows_of = c.requires.bounded.3 }

pub returns-in-Fixed : goal.returns-in-Fixed
returns-in-Fixed c = gate_by_lem _ _ _ _ _ _ _ c.in-Fixed.is

pub returns-in-Letter : goal.returns-in-Letter
returns-in-Letter c = ap Copy c.channel_variable.ensures ∙ gate_by_lem _ _ _ _ _ _ _ c.in-Letter.is

pub returns-in-Negation : goal.returns-in-Negation
returns-in-Negation c = gate_by_lem _ _ _ _ _ _ _ c.in-Negation.is

pub returns-in-And : goal.returns-in-And
returns-in-And c = gate_by_lem _ _ _ _ _ _ _ c.in-And.is

pub returns-in-Or : goal.returns-in-Or
returns-in-Or c = gate_by_lem _ _ _ _ _ _ _ c.in-Or.is

pub returns-in-Chop : goal.returns-in-Chop
returns-in-Chop c =
    let e = c.in-Chop.is in
    ap₂ AnyOf (omega (arith, chop_before c.args.p c.requires.placed.0 (c.requires.placed.1 e) e c.requires.bounded.0.steps)) (omega arith) ∙ gate_by_lem _ _ _ _ _ _ _ e

pub returns-in-Duration : goal.returns-in-Duration
returns-in-Duration c = c.level_gate.ensures ∙ gate_by_lem _ _ _ _ _ _ _ c.in-Duration.is

pub returns-in-Throughout : goal.returns-in-Throughout
returns-in-Throughout c = c.throughout_gate.ensures ∙ gate_by_lem _ _ _ _ _ _ _ c.in-Throughout.is

pub returns-in-Cut : goal.returns-in-Cut
returns-in-Cut c = c.triple_gate.ensures ∙ gate_by_lem _ _ _ _ _ _ _ c.in-Cut.is
