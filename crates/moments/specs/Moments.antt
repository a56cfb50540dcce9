-- What stands behind a parameter that is a reference, at a call's two moments: a slice's list, an array's, a number.
use Rattle.std.specs.Prelude.{List, ◌++◌, ℕ, length, drop}
use Rattle.std.specs.Borrow.{MutBor}
use denote.Triple.Both.{Both}

-- before the call
abbrev pub old {ℓ} : {A : Type 0} {X : Type ℓ} → Both (MutBor A) X → A
old x = x.entry.now

-- after it
abbrev pub new {ℓ} : {E : Type ℓ} {A : Type 0} → Both E (MutBor A) → A
new x = x.exit.now

-- a slice of numbers that a call is lent to write to
abbrev pub Slice : Type 0
Slice = Both (MutBor (List ℕ)) (MutBor (List ℕ))

-- "In every lent output, places beyond those written are untouched."
abbrev pub over : List ℕ → List ℕ → List ℕ
over written before = written ++ drop (length written) before
