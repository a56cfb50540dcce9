-- What a search leaves, for a contract: its answer, and the recording after it; and how much it is lent.
use Rattle.std.specs.Prelude.{Result}
use Rattle.refusal.specs.declared.Refusal.{Refusal}
use Rattle.moments.specs.Moments.{old, new, Slice}
use Rattle.paper_search.specs.Search.{Searched, lent_of}
use Rattle.paper_search.specs.declared.Answer.{Answer}
use Rattle.paper_search.specs.declared.Lent.{Lent}

abbrev pub left : Result Answer Refusal → Slice → Searched
left answer recording = record { answer = answer; recording = new recording }

abbrev pub lent : (variables marks values trail recording : Slice) → Lent
lent variables marks values trail recording = lent_of (old variables) (old marks) (old values) (old trail) (old recording)
