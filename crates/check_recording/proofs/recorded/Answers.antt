-- `recorded` goes channel by channel: at each turn the byte has the bits of the channels before b and none beyond,
-- so that bit b is added to a 0; the number with these bits is their sum.
use mathlib.Core.Path.{◌≡◌, refl, ap, ◌∙◌}
use Prim.Native.Nat.{ℕ, ◌+◌, ◌-◌, ◌*◌}
use native.Mathlib.Omega.{arith}
use lib.Dec.{eqb}
use lib.ListN.{length}
use borrow.Rule.Slice.PartMut.{mid_of, mid_len}
use Rattle.paper_grammar.specs.Limits.{max_channels}
use Rattle.paper_meaning.specs.Meaning.{bit}
use Rattle.truth_word.proofs.Words.{packed_more}
use Rattle.truth_table.proofs.Joined.{from_bit}
use Rattle.truth_table.proofs.Rows.{part_entry}
use Rattle.check_recording.proofs.Channels.{channel_bit, byte_done}
use Rattle.check_recording.proofs.recorded.Goals as goal
use Rattle.check_recording.proofs.recorded.Goals.{At-loop-b}

-- the channels' row has C bytes
wide : (c : At-loop-b) → let a = c.args in let at = a.t * a.c in length (mid_of at (at + a.c - at) a.assignment.now) ≡ a.c
wide c = let a = c.args in mid_len (a.t * a.c) (a.t * a.c + a.c) a.assignment.now (omega (arith, c.requires.2)) ∙ omega arith

pub loop-b-preserved : goal.loop-b-preserved
loop-b-preserved c =
    let a = c.args in
    let l = c.loop-b in
    let at = a.t * a.c in
    let n = wide (goal.at.loop-b-preserved c).At-loop-b in
    let e = c.from.ensures ∙ from_bit _ ∙ ap (λ (x : ℕ). bit (eqb x 1)) (part_entry at (at + a.c - at) a.assignment.now l.b (omega (arith, n))) in
    packed_more max_channels l.b (omega (arith, n)) (channel_bit a.assignment.now a.c a.t l.b refl e) l.invariant

pub returns : goal.returns
returns c =
    let n = wide (goal.at.returns c).At-loop-b in
    byte_done _ (omega (arith, n)) (omega (arith, n)) c.loop-b.invariant
