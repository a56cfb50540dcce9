-- `recorded` goes channel by channel: at each turn the byte has the bits of the channels before b and none beyond,
-- so that bit b is added to a 0; the number with these bits is their sum.
use Rattle.paper_assignments.specs.Extension.{value_in}
use Rattle.paper_circuit.specs.Circuit.{channel_of}
use Rattle.paper_meaning.proofs.Words.{Packed}
use Rattle.check_recording.proofs.recorded.Given as goal

abbrev pub invariant-loop-b : goal.invariant-loop-b
invariant-loop-b l = Packed l.b (λ b. value_in l.assignment (channel_of l.c l.t b)) l.byte
