-- From the recording's end on a column is blank; before it the line's glyph,
-- which the match tells.
use lib.ListN.{length}
use native.Mathlib.Omega.{arith}
use Rattle.paper_meaning.specs.Meaning.{channel_at}
use Rattle.strip_lines.proofs.Lines.{column_below}
use Rattle.strip_lines.proofs.column.Goals as goal

pub returns-in-Channel : goal.returns-in-Channel
unfolding channel_at
returns-in-Channel c =
    let a = c.args in
    column_below (length a.recording.now) a.recording.now a.t (omega (arith, c.if-t-recording.false)) c.in-Channel.is c.level.ensures
