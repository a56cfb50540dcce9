-- Letters and digits are eight and ten bytes, so what is to hold of each is computed at each; a byte that a test picks is
-- one of them.
use mathlib.Core.Path.{◌≡◌, refl}
use mathlib.Core.Bool.{true, false}
use mathlib.Core.List.{List, [], ◌∷◌}
use Prim.Native.Nat.{ℕ, ◌+◌, ◌<◌}
use Rattle.lists.proofs.Tests.{at_each}
use Rattle.paper_grammar.specs.Reader.{is_digit}
use Rattle.paper_grammar.specs.Trees.{Link, and, or, chop, link_byte}
use Rattle.paper_grammar.specs.declared.Sort.{Sort}

pub digit_is : (d : ℕ) → d < 10 → is_digit (48 + d) ≡ true
digit_is = at_each (λ d. is_digit (48 + d) ≡ true) 10 refl refl refl refl refl refl refl refl refl refl

-- no digit stands at its beginning
abbrev pub Clear : List ℕ → Type 0
Clear [] = Unit
Clear (b ∷ q) = is_digit b ≡ false

pub link_clear : {s : Sort} (l : Link s) → is_digit (link_byte l) ≡ false
link_clear and = refl
link_clear or = refl
link_clear chop = refl
