-- Document 01, "Questions in order", 10 and 11: whether bytes are a recording of k steps and C channels.
use Rattle.std.specs.Prelude.{cond, List, [], ◌∷◌, ◌++◌, ℕ, suc, ◌^◌, ◌<◌, eqb, ltb, length}
use Rattle.lists.specs.Listing.{All}
use Rattle.refusal.specs.Asked.{question, Reply}
use Rattle.paper_grammar.specs.Questions.{at_first}

-- question 10: has the recording k bytes?
unfoldable pub ask_recording : ℕ → List ℕ → Reply
ask_recording k recording = question 10 0 (eqb (length recording) k)

-- each byte is below a number
abbrev pub EachBelow : ℕ → List ℕ → Type 0
EachBelow most bytes = All (λ b. b < most) bytes

-- is each byte below a number? Its place: first that isn't, the bytes being those from place t on.
unfoldable pub not_below : ℕ → ℕ → List ℕ → List ℕ
not_below most t [] = []
not_below most t (b ∷ r) = cond (ltb b most) [] (t ∷ []) ++ not_below most (suc t) r

unfoldable pub ask_below : ℕ → ℕ → List ℕ → Reply
ask_below number most bytes = at_first number (not_below most 0 bytes)

-- question 11: is each below 2^C?
abbrev pub ask_bytes : ℕ → List ℕ → Reply
ask_bytes C recording = ask_below 11 (2 ^ C) recording
