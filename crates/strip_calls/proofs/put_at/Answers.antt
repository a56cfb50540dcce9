-- The line's part has as many bytes as a line;
-- once it is back, the line is stored there.
use mathlib.Core.Path.{ap, ◌∙◌}
use Prim.Native.Nat.{◌+◌, ◌-◌, ◌*◌}
use native.Mathlib.Omega.{arith}
use borrow.Author.Rules.{rules}
use lib.ListN.{length}
use lib.Seq.{sets}
use borrow.Rule.Slice.PartMut.{mid_len}
use Rattle.lists.proofs.Stored.{part_stored}
use Rattle.strip.specs.Strip.{line_bytes}
use Rattle.strip.proofs.Laws.{line_length}
use Rattle.strip_calls.proofs.put_at.Goals as goal

pub put_line-requires : goal.put_line-requires
put_line-requires c =
    (mid_len _ _ c.args.strip.now (search rules) ∙ omega arith, c.requires.1, c.requires.2)

pub returns : goal.returns
returns c =
    let a = c.args in let line = c.put_line.ensures in
    let at = a.n * line_bytes in
    part_stored at (at + line_bytes - at) a.strip.now c.put_line.new.part (ap length line ∙ line_length _ _ c.requires.1 a.line ∙ omega arith) (omega arith)
    ∙ ap (sets a.strip.now at) line
