-- With none free it clashes, with two or more nothing is forced, and the only free one is added (Long.antt).
-- Which literal that is, the count has kept.
use Rattle.search_visits.proofs.Long.{tallied_clash, tallied_more, tallied_one}
use Rattle.search_visits.proofs.visit_tallied.Goals as goal

pub returns-then-free-eq0 : goal.returns-then-free-eq0
returns-then-free-eq0 c k n t = tallied_clash c.requires.0 k t n c.if-free-eq0.true

pub returns-then-free-ne1 : goal.returns-then-free-ne1
returns-then-free-ne1 c k n t = tallied_more c.requires.0 k t c.if-free-eq0.false c.if-free-ne1.true

pub add-t-requires : goal.add-t-requires
add-t-requires c = (c.requires.1.0, c.requires.1.1, c.requires.0, c.requires.2 c.if-free-ne1.false)

pub returns : goal.returns
returns c k n t =
    tallied_one c.requires.0 k t c.if-free-ne1.false c.add-t.ensures
