-- What follows once the formula is accepted. Nothing here need be believed: no call open to others cites it.
use Rattle.std.specs.Prelude.{Bool, List, [], ◌∷◌, ℕ, Result, Ok, Err}
use Rattle.refusal.specs.Asked.{asked}
use Rattle.refusal.specs.declared.Refusal.{Refusal}
use Rattle.paper_meaning.specs.Recording.{ask_recording, ask_bytes}

-- the formula's truth being told, and its interval accepted: questions 10 and 11 come first
abbrev pub judged : ℕ → ℕ → List ℕ → Bool → Result Bool Refusal
judged C k recording v = asked (ask_recording k recording ∷ ask_bytes C recording ∷ []) Err (Ok v)
