-- Document 02, C-11: what the strip's call answers, and the lent array after it.
use Rattle.std.specs.Prelude.{List, [], ◌∷◌, ◌++◌, ℕ, length, Result, Ok, Err}
use Rattle.moments.specs.Moments.{over}
use Rattle.refusal.specs.Asked.{ask_places, asked, Reply}
use Rattle.refusal.specs.declared.Refusal.{Refusal}
use Rattle.interval.specs.Limits.{ask_steps}
use Rattle.paper_grammar.specs.Questions.{ask_channels}
use Rattle.paper_meaning.specs.Recording.{ask_recording, ask_bytes}
use Rattle.strip.specs.Strip.{strip_of}

-- "Printing asks 1, 2, 10, 11 and 18.": is it a recording of C channels and k steps, and is there room for its strip?
abbrev pub recorded_questions : ℕ → ℕ → List ℕ → List Reply
recorded_questions C k recording = ask_channels C ∷ ask_steps k ∷ ask_recording k recording ∷ ask_bytes C recording ∷ []

abbrev pub strip_questions : ℕ → ℕ → List ℕ → ℕ → List Reply
strip_questions C k recording room = recorded_questions C k recording ++ ask_places (length (strip_of C k recording)) room ∷ []

-- the answer, and the strip's array after it
pub record Stripped : Type 0 where
  pub answer : Result ℕ Refusal
  pub strip : List ℕ

abbrev pub not_stripped : List ℕ → Refusal → Stripped
not_stripped strip r = record { answer = Err r; strip = strip }

abbrev pub printed : List ℕ → List ℕ → Stripped
printed S strip = record { answer = Ok (length S); strip = over S strip }

-- the questions; then the strip is written
unfoldable pub stripped : ℕ → ℕ → List ℕ → List ℕ → Stripped
stripped C k recording strip = asked (strip_questions C k recording (length strip)) (not_stripped strip) (printed (strip_of C k recording) strip)
