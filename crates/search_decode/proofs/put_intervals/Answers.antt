-- The first interval has the first place (Decode.antt).
use Rattle.std.proofs.Common.{rules}
use Rattle.search_decode.proofs.Decode.{first_in}
use Rattle.search_decode.proofs.put_intervals.Goals as goal

pub loop-t-init : goal.loop-t-init
loop-t-init c = record { upto = search rules; turn = λ h. first_in _ }
