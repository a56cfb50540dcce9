-- By the rule, the level and the length of the interval the gate is one of four kinds (Gates.antt);
-- its visit is that of its clauses.
use mathlib.Core.Path.{◌≡◌, refl}
use native.Mathlib.Omega.{arith}
use Rattle.table_blocks.specs.declared.Rule.TheVariants.{Throughout}
use Rattle.table_blocks.proofs.Positions.{throughout_position, level_position}
use Rattle.search_patterns.proofs.Steps.{patterns, settled_named}
use Rattle.search_walks.proofs.Places.{place_small}
use Rattle.search_walks.proofs.Gates.{variable_here, inputs_here, visited_here}
use Rattle.search_levels.proofs.Gates.{whole_rule, level_rule, whole_empty, whole_one, whole_gate, level_true, level_empty, level_gate_lem}
use Rattle.search_levels.proofs.visit_level.Goals as goal
use Rattle.search_levels.proofs.visit_level.Goals.{Then-is_throughout}

-- the rule is that of `[S]`, by the first test
is_whole : (c : Then-is_throughout) → c.args.block.rule ≡ Throughout
is_whole c = whole_rule c.is_throughout.ensures c.requires.standing.1 c.if-is_throughout.true

pub overflow_add-v : goal.overflow_add-v
overflow_add-v c = omega (arith, place_small c.requires.standing.0 c.requires.placed, c.requires.standing.0.bounded.first)

pub settle_by-requires : goal.settle_by-requires
settle_by-requires c =
    let v = variable_here c.requires.standing.0 c.requires.placed in record { trailing = c.requires.standing.0.trailing; four = (v, v, v, v) }

pub returns-then-d-eq0 : goal.returns-then-d-eq0
returns-then-d-eq0 c =
    visited_here c.requires.standing.0 c.requires.placed (whole_empty _ _ _ _ _ _ _ (is_whole (goal.at.returns-then-d-eq0 c).Then-is_throughout) c.if-d-eq0.true) (settled_named (patterns _ 0 0 0).5 c.settle_by.ensures)

pub overflow_add-left : goal.overflow_add-left
overflow_add-left c =
    omega (arith, throughout_position c.requires.placed (is_whole (goal.at.overflow_add-left c).Then-is_throughout), c.requires.standing.0.bounded.steps, c.requires.standing.0.bounded.left)

pub settle_by-requires-then-d-lt2 : goal.settle_by-requires-then-d-lt2
settle_by-requires-then-d-lt2 c =
    let v = variable_here c.requires.standing.0 c.requires.placed in
    let u = inputs_here c.requires.standing.0 c.requires.placed (whole_one _ _ _ _ _ _ _ (is_whole (goal.at.settle_by-requires-then-d-lt2 c).Then-is_throughout) c.if-d-eq0.false (omega (arith, c.if-d-lt2.true)) refl) in
    record { trailing = c.requires.standing.0.trailing; four = (v, u, v, v) }

pub returns-then-d-lt2 : goal.returns-then-d-lt2
returns-then-d-lt2 c =
    visited_here c.requires.standing.0 c.requires.placed (whole_one _ _ _ _ _ _ _ (is_whole (goal.at.returns-then-d-lt2 c).Then-is_throughout) c.if-d-eq0.false (omega (arith, c.if-d-lt2.true)) refl)
    (settled_named (patterns _ _ 0 0).0 c.settle_by-then-d-lt2.ensures)

pub overflow_add-last : goal.overflow_add-last
overflow_add-last c = omega (arith, throughout_position c.requires.placed (is_whole (goal.at.overflow_add-last c).Then-is_throughout), c.requires.standing.0.bounded.steps)

pub overflow_add-last-then-is_throughout : goal.overflow_add-last-then-is_throughout
overflow_add-last-then-is_throughout c =
    omega (arith, throughout_position c.requires.placed (is_whole (goal.at.overflow_add-last-then-is_throughout c).Then-is_throughout), c.requires.standing.0.bounded.steps, c.requires.standing.0.bounded.left)

pub settle_both-requires : goal.settle_both-requires
settle_both-requires c = (
  c.requires.standing.0.trailing,
  variable_here c.requires.standing.0 c.requires.placed,
  inputs_here c.requires.standing.0 c.requires.placed (whole_gate _ _ _ _ _ _ _ (is_whole (goal.at.settle_both-requires c).Then-is_throughout) (omega (arith, c.if-d-lt2.false)) refl),
)

pub returns-then-is_throughout : goal.returns-then-is_throughout
returns-then-is_throughout c =
    visited_here c.requires.standing.0 c.requires.placed (whole_gate _ _ _ _ _ _ _ (is_whole (goal.at.returns-then-is_throughout c).Then-is_throughout) (omega (arith, c.if-d-lt2.false)) refl) c.settle_both.ensures

pub settle_by-requires-then-a-eq0 : goal.settle_by-requires-then-a-eq0
settle_by-requires-then-a-eq0 c =
    let v = variable_here c.requires.standing.0 c.requires.placed in record { trailing = c.requires.standing.0.trailing; four = (v, v, v, v) }

pub returns-then-a-eq0 : goal.returns-then-a-eq0
returns-then-a-eq0 c =
    visited_here c.requires.standing.0 c.requires.placed (level_true _ _ _ _ _ _ _ (level_rule c.is_throughout.ensures c.requires.standing.1 c.if-is_throughout.false).1 c.if-a-eq0.true)
    (settled_named (patterns _ 0 0 0).6 c.settle_by-then-a-eq0.ensures)

pub settle_by-requires-then-d-eq0-2 : goal.settle_by-requires-then-d-eq0-2
settle_by-requires-then-d-eq0-2 c =
    let v = variable_here c.requires.standing.0 c.requires.placed in record { trailing = c.requires.standing.0.trailing; four = (v, v, v, v) }

pub returns-then-d-eq0-2 : goal.returns-then-d-eq0-2
returns-then-d-eq0-2 c =
    visited_here c.requires.standing.0 c.requires.placed (level_empty _ _ _ _ _ _ _ (level_rule c.is_throughout.ensures c.requires.standing.1 c.if-is_throughout.false).1 c.if-a-eq0.false c.if-d-eq0-2.true)
    (settled_named (patterns _ 0 0 0).5 c.settle_by-then-d-eq0-2.ensures)

pub overflow_sub-q : goal.overflow_sub-q
overflow_sub-q c =
    omega (
      arith,
      (level_position c.requires.placed (level_rule c.is_throughout.ensures c.requires.standing.1 c.if-is_throughout.false).1).1 (omega (arith, c.if-a-eq0.false))
          (omega (arith, c.if-d-eq0-2.false)),
      c.requires.standing.2,
    )

pub overflow_add-first : goal.overflow_add-first
overflow_add-first c = omega (arith, place_small c.requires.standing.0 c.requires.placed, c.requires.standing.0.bounded.first)

pub overflow_add-first-2 : goal.overflow_add-first-2
overflow_add-first-2 c = omega (arith, place_small c.requires.standing.0 c.requires.placed, c.requires.standing.0.bounded.first)

pub overflow_add-i : goal.overflow_add-i
overflow_add-i c =
    omega (
      arith,
      (level_position c.requires.placed (level_rule c.is_throughout.ensures c.requires.standing.1 c.if-is_throughout.false).1).0,
      c.requires.standing.0.bounded.steps,
      c.requires.standing.0.bounded.left,
    )

pub overflow_add-left-2 : goal.overflow_add-left-2
overflow_add-left-2 c =
    omega (
      arith,
      (level_position c.requires.placed (level_rule c.is_throughout.ensures c.requires.standing.1 c.if-is_throughout.false).1).0,
      c.requires.standing.0.bounded.steps,
      c.requires.standing.0.bounded.left,
    )

pub settle_step-requires : goal.settle_step-requires
settle_step-requires c = (
  c.requires.standing.0.trailing,
  variable_here c.requires.standing.0 c.requires.placed,
  inputs_here c.requires.standing.0 c.requires.placed (level_gate_lem _ _ _ _ _ _ _ (level_rule c.is_throughout.ensures c.requires.standing.1 c.if-is_throughout.false).1 c.if-a-eq0.false
      c.if-d-eq0-2.false refl (omega (arith, c.requires.standing.2)) refl),
)

pub returns : goal.returns
returns c =
    visited_here c.requires.standing.0 c.requires.placed (level_gate_lem _ _ _ _ _ _ _ (level_rule c.is_throughout.ensures c.requires.standing.1 c.if-is_throughout.false).1 c.if-a-eq0.false c.if-d-eq0-2.false refl
    (omega (arith, c.requires.standing.2)) refl) c.settle_step.ensures
