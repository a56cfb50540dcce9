-- `Interval::ask_interval` asks question 9: whether j is from i to k,
-- which is the definition's test.
use Rattle.interval.specs.Limits.{ask_interval}
use Rattle.interval.proofs.Interval.ask_interval.Goals as goal

pub returns : goal.returns
unfolding ask_interval
returns c = c.ask_within.ensures
