-- `put_channels` fills one part a turn with the channels of the next instant,
-- and each part has a byte for each channel (Parts.antt of extend_triples).
use mathlib.Core.Path.{ap, ◌∙◌}
use Prim.Native.Nat.{ℕ, ◌+◌}
use Rattle.lists.specs.Listing.{tab}
use Rattle.lists.proofs.Listing.{length_tab}
use Rattle.paper_meaning.specs.Meaning.{bit, channel_at}
use Rattle.paper_assignments.specs.Extension.{channel_values}
use Rattle.extend_triples.proofs.Parts.{begun_even, room, part_length, turn, done}
use native.Mathlib.Omega.{arith}
use Rattle.extend_blocks.proofs.put_channels.Goals as goal

pub loop-byte-init : goal.loop-byte-init
loop-byte-init c = begun_even (λ t. length_tab _ _) c.requires.2

pub slice_bounds-put_instant-end : goal.slice_bounds-put_instant-end
slice_bounds-put_instant-end c = omega (arith, room c.loop-byte.invariant (omega arith))

pub loop-byte-preserved : goal.loop-byte-preserved
unfolding channel_at
loop-byte-preserved c =
    let a = c.args in let l = c.loop-byte in
    let n = part_length l.invariant (omega arith) (l.at + a.c) (omega arith) in
    turn l.invariant (omega arith) _ (omega arith) (c.put_instant.ensures ∙ ap (λ (n : ℕ). tab n (λ x. bit (channel_at a.recording.now x l.byte-index))) n)

pub returns : goal.returns
unfolding channel_values
returns c = done c.loop-byte.invariant (omega arith)
