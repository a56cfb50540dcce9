-- `tuv_node_text` packs what `node_place` answers,
-- and `node_place` answers as its definition.
use mathlib.Core.Path.{ap, ◌∙◌}
use Rattle.answers.specs.Answers.{pack_located}
use Rattle.tuvenikar.proofs.tuv_node_text.Goals as goal

pub returns : goal.returns
returns c = c.pack_located.ensures ∙ ap pack_located c.node_place.ensures
