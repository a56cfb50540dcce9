-- The triples' block is asked, then the intervals', as the definition lists them; the triples' clauses come before
-- the intervals', so these are numbered from past how many those are (Walk.antt).
use Rattle.std.proofs.lemmas.Result.{err_from_is_err_and}
use Rattle.table_nodes.proofs.Mentioned.{triples_mentioned, intervals_mentioned}
use Rattle.check_clauses.proofs.Walk.{triples_no, intervals_asked}
use Rattle.table_nodes.proofs.Nodes.{halves, triples_bounded, intervals_bounded}
use Rattle.table_sizes.proofs.Rows.{small}
use native.Mathlib.Omega.{arith}
use Rattle.check_clauses.proofs.ask_chop.Goals as goal

pub ask_block-requires : goal.ask_block-requires
ask_block-requires c =
    let h = halves c.args.block c.beyond-w.ensures c.triples_of-triples.ensures c.intervals_of-intervals.ensures in
    record { bounded = (triples_bounded _ h c.requires.fine.0, omega (arith, c.requires.fine.1), c.requires.fine.2); all_mentioned = triples_mentioned _ h c.requires.all_mentioned }

pub returns-in_err-ask_block : goal.returns-in_err-ask_block
returns-in_err-ask_block c =
    let p = err_from_is_err_and c.from_residual.result c.from_residual.ensures.1 in
    rw (p.1, p.2) (triples_no _ (halves c.args.block c.beyond-w.ensures c.triples_of-triples.ensures c.intervals_of-intervals.ensures) _ _ c.ask_block.ensures
    c.in_err-ask_block.was)

pub weigh-before-requires : goal.weigh-before-requires
weigh-before-requires c =
    let s = c.requires.fine.0 in
    record { small = small c.clauses.ensures (omega arith) (omega arith) (omega arith) s.bounded.steps; points = s.points; number = omega arith }

pub ask_block-requires-2 : goal.ask_block-requires-2
ask_block-requires-2 c =
    let h = halves c.args.block c.beyond-w.ensures c.triples_of-triples.ensures c.intervals_of-intervals.ensures in
    record { bounded = (intervals_bounded _ h c.requires.fine.0, omega (arith, c.requires.fine.1, c.weigh-before.ensures.1), c.requires.fine.2); all_mentioned = intervals_mentioned _ h c.requires.all_mentioned }

pub returns : goal.returns
returns c =
    intervals_asked _ (halves c.args.block c.beyond-w.ensures c.triples_of-triples.ensures c.intervals_of-intervals.ensures) _ _
    c.ask_block.ensures c.in_ok-ask_block.was c.clauses.ensures c.weigh-before.ensures.0 c.ask_block-2.ensures
