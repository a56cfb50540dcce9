-- A turn stores the next number's bytes after those of the numbers before it (Stored.antt).
use mathlib.Core.List.{flat_map}
use Rattle.std.proofs.Common.{refl, rules, arith}
use Rattle.file_numbers.proofs.Stored.{numbers_turn}
use Rattle.file_numbers.proofs.put_numbers.Goals as goal

pub loop-n-init : goal.loop-n-init
unfolding flat_map
loop-n-init c = record { stored = refl; place = omega arith }

pub loop-n-preserved : goal.loop-n-preserved
loop-n-preserved c =
    let i = c.loop-n.invariant in
    record { stored = numbers_turn _ _ _ _ (search rules) i.stored (omega (arith, i.place)) c.put_number.ensures; place = omega (arith, i.place) }
