-- DEMAND 1: what a refusal gives, and which places of a lent array a call that is not refused may write.
use Rattle.std.specs.Prelude.{◌≡◌, ◌≢◌, ℕ, length, drop}
use mathlib.Core.List.{List, Memᴰ}
use Rattle.refusal.specs.Asked.{FirstNo, Asks, Reply}
use Rattle.refusal.specs.declared.Refusal.{Refusal}

-- "places beyond those written are untouched": the array is as long as it was, and from place n on as it was
pub record Kept (n : ℕ) (before after : List ℕ) : Type 0 where
  pub long : length after ≡ length before
  pub beyond : drop n after ≡ drop n before

-- a call that leaves x, an answer (`tell x`, a refusal's by `refusal`) and the lent arrays
pub record Orderly {A B : Type 0} (tell : A → B) (refusal : Refusal → B) (numbers : List ℕ) (questions : List Reply)
    (refused : Refusal → A) (Left : A → Type 0) (x : A) : Type 0 where
  -- its questions have document 01's numbers for the call, in document 01's order
  pub asks : Asks numbers questions
  -- refused: by the first no, so by one of these numbers, and every lent array is as it was
  pub refusals : (r : Refusal) → tell x ≡ refusal r → FirstNo questions r × Memᴰ r.number numbers × (x ≡ refused r)
  -- not refused: only these places are written
  pub writes : ((r : Refusal) → tell x ≢ refusal r) → Left x
