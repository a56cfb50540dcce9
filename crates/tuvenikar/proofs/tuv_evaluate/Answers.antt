-- `tuv_evaluate` packs what `evaluate` answers,
-- and `evaluate` answers as its definition.
use Rattle.answers.specs.Answers.{pack_verdict}
use mathlib.Core.Path.{ap, ◌∙◌}
use Rattle.tuvenikar.proofs.tuv_evaluate.Goals as goal

pub returns : goal.returns
returns c = c.pack_verdict.ensures ∙ ap pack_verdict c.evaluate.ensures
