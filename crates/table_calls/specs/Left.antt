-- What a call leaves, for its contract: its answer, and every lent array after it.
use Rattle.refusal.specs.Asked.{Reply}
use Rattle.moments.specs.Moments.{new, Slice}
use Rattle.table_calls.specs.Table.{After}

abbrev pub left : Reply → Slice → Slice → Slice → After
left answer sizes variables marks = record { answer = answer; sizes = new sizes; variables = new variables; marks = new marks }
