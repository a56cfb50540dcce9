-- `Interval::ask_steps` asks question 2: its test is the definition's,
-- and so is the reply.
use Rattle.interval.specs.Limits.{ask_steps}
use Rattle.interval.proofs.Interval.ask_steps.Goals as goal

pub returns : goal.returns
unfolding ask_steps
returns c = c.ask.ensures
