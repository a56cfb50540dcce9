-- The bytes of the numbers so far are stored, and the place is after them.
use mathlib.Core.List.{flat_map}
use Rattle.std.proofs.Common.{◌≡◌, ◌+◌, ◌*◌, take}
use Rattle.std.proofs.lemmas.List.Edits.{sets}
use Rattle.file_numbers.specs.File.{bytes_of}
use Rattle.file_numbers.proofs.put_numbers.Given as goal

abbrev pub invariant-loop-n : goal.invariant-loop-n
invariant-loop-n l = record {
  stored : l.file ≡ sets l.initial.file l.at (flat_map bytes_of (take l.n-index l.more));
  place : l.b ≡ l.at + 4 * l.n-index;
}
