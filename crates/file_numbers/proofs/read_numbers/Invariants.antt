-- The first e of the file's variables are read.
use Rattle.std.proofs.Common.{◌≡◌, take}
use Rattle.file_numbers.specs.File.{variables_at}
use Rattle.file_numbers.proofs.read_numbers.Given as goal

abbrev pub invariant-loop-e : goal.invariant-loop-e
invariant-loop-e l = take l.e l.v-items ≡ take l.e (variables_at l.file)
