-- Question 18 of the table answers no with number 18:
-- it is a test with its number.
use mathlib.Core.Bool.{◌&&◌}
use Prim.Native.Nat.{ℕ}
use lib.Dec.{leb}
use Rattle.refusal.specs.Asked.{Gives}
use Rattle.refusal.proofs.Numbers.{question_gives}
use Rattle.table_calls.specs.Table.{ask_room}

pub room_gives : (L sizes variables marks : ℕ) → Gives 18 (ask_room L sizes variables marks)
unfolding ask_room
room_gives L sizes variables marks = question_gives 18 0 (leb 5 sizes && leb L variables && leb L marks)
