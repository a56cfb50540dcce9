-- Document 01, "Meaning" and "Questions in order", 9 to 11: what evaluation answers for any [i, j] of a recording.
use Rattle.std.specs.Prelude.{Bool, false, List, [], ◌∷◌, ◌++◌, ℕ, Result, Ok, Err}
use Rattle.refusal.specs.Asked.{Reply, asked}
use Rattle.refusal.specs.declared.Refusal.{Refusal}
use Rattle.interval.specs.Limits.{ask_interval}
use Rattle.interval.specs.declared.Interval.{Interval}
use Rattle.paper_grammar.specs.Reader.{Read, parsed, stopped, read}
use Rattle.paper_grammar.specs.declared.Sort.TheVariants.{Formula}
use Rattle.paper_grammar.specs.Questions.{formula_questions}
use Rattle.paper_meaning.specs.Meaning.{holds}
use Rattle.paper_meaning.specs.Recording.{ask_recording, ask_bytes}

-- "evaluation [asks] 1 to 7 and 9 to 11"
abbrev pub recording_questions : ℕ → ℕ → ℕ → ℕ → List ℕ → List Reply
recording_questions C k i j recording = ask_interval i j k ∷ ask_recording k recording ∷ ask_bytes C recording ∷ []

-- the truth of a text that reads; one that does not is refused before
abbrev pub read_holds : List ℕ → Read Formula → Interval → Bool
read_holds recording (parsed f) v = holds recording f v
read_holds recording (stopped p) v = false

-- "The evaluator answers for any [i, j] of a recording."
unfoldable pub evaluated : ℕ → ℕ → ℕ → ℕ → List ℕ → List ℕ → Result Bool Refusal
evaluated C k i j t recording =
    asked (formula_questions C k t ++ recording_questions C k i j recording) Err (Ok (read_holds recording (read t) (record { i = i; j = j })))
