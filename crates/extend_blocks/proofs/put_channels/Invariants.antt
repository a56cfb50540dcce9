-- `put_channels` fills one part a turn with the channels of the next instant,
-- and each part has a byte for each channel (Parts.antt of extend_triples).
use lib.ListN.{length}
use Rattle.lists.specs.Listing.{tab}
use Rattle.paper_meaning.specs.Meaning.{bit, channel_at}
use Rattle.extend_triples.proofs.Parts.{Parts}
use Rattle.extend_blocks.proofs.put_channels.Given as goal

abbrev pub invariant-loop-byte : goal.invariant-loop-byte
invariant-loop-byte l = Parts (λ t. tab l.c (λ x. bit (channel_at l.recording x t))) (λ t. l.c) (length l.recording) l.initial.out l.at l.out l.byte-index
