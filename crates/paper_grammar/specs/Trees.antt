-- Document 01, "Formula text": state assertions and formulas as trees, and the text of each. Length, n and nodes are unbounded.
use Rattle.std.specs.Prelude.{◌≡◌, ◌↔◌, Bool, true, false, cond, List, [], ◌∷◌, ◌++◌, ℕ, zero, suc, ◌+◌, ◌/◌, ◌%◌, ◌≤◌, ◌<◌, ltb, length, take}
use Rattle.paper_grammar.specs.declared.Sort.{Sort}
use Rattle.paper_grammar.specs.declared.Sort.TheVariants.{State, Formula}

-- what joins two parts: `&`, `|` and, of formulas alone, `;`
pub data Link : Sort → Type 0 where
  and or : {s : Sort} → Link s
  chop : Link Formula

-- `T` and `F`, a letter (channel 0 is `a`), `!S`, `(S&S)`; of formulas `#S>=n` and `[S]`
pub data Tree : Sort → Type 0 where
  constant : {s : Sort} → Bool → Tree s
  letter : ℕ → Tree State
  negation : {s : Sort} → Tree s → Tree s
  pair : {s : Sort} → Link s → Tree s → Tree s → Tree s
  duration : Tree State → ℕ → Tree Formula
  throughout : Tree State → Tree Formula

-- every letter is among the first C channels
abbrev pub Letters : {s : Sort} → ℕ → Tree s → Type 0
Letters C (constant v) = Unit
Letters C (letter c) = c < C
Letters C (negation x) = Letters C x
Letters C (pair l x y) = Letters C x × Letters C y
Letters C (duration x n) = Letters C x
Letters C (throughout x) = Letters C x

-- every n is at most N
abbrev pub Numbers : {s : Sort} → ℕ → Tree s → Type 0
Numbers N (constant v) = Unit
Numbers N (letter c) = Unit
Numbers N (negation x) = Numbers N x
Numbers N (pair l x y) = Numbers N x × Numbers N y
Numbers N (duration x n) = n ≤ N
Numbers N (throughout x) = Unit

-- "n is decimal: `0`, or a digit 1 to 9 and any digits after it"; f bounds how many digits
unfoldable pub decimal_in : ℕ → ℕ → List ℕ
decimal_in zero n = []
decimal_in (suc f) n = cond (ltb n 10) ((48 + n) ∷ []) (decimal_in f (n / 10) ++ (48 + n % 10) ∷ [])

unfoldable pub decimal : ℕ → List ℕ
decimal n = decimal_in (suc n) n

-- `&`, `|`, `;`
abbrev pub link_byte : {s : Sort} → Link s → ℕ
link_byte and = 38
link_byte or = 124
link_byte chop = 59

-- `T`, `F`
abbrev pub constant_byte : Bool → ℕ
constant_byte true = 84
constant_byte false = 70

-- a tree's text, and q after it: `!` is 33, `(` 40 and `)` 41, `#` 35, `>` 62, `=` 61, `[` 91 and `]` 93
unfoldable pub write : {s : Sort} → Tree s → List ℕ → List ℕ
write (constant v) q = constant_byte v ∷ q
write (letter c) q = (97 + c) ∷ q
write (negation x) q = 33 ∷ write x q
write (pair l x y) q = 40 ∷ write x (link_byte l ∷ write y (41 ∷ q))
write (duration x n) q = 35 ∷ write x (62 ∷ 61 ∷ decimal n ++ q)
write (throughout x) q = 91 ∷ write x (93 ∷ q)

abbrev pub text_of : {s : Sort} → Tree s → List ℕ
text_of x = write x []

-- some grammatical text, channels a to h, begins with t
abbrev pub Begins : List ℕ → Type 0
Begins t = (f : Tree Formula) × Letters 8 f × (q : List ℕ) × (text_of f ≡ t ++ q)

-- question 4's place: "least p such that no grammatical text begins with its first p+1 bytes, or its length if it only ends early"
pub record Place (t : List ℕ) (p : ℕ) : Type 0 where
  pub within : p ≤ length t
  pub goes_on : Begins (take p t)
  pub least : (n : ℕ) → n < p → Begins (take (suc n) t)
  pub no_further : p < length t → Begins (take (suc p) t) → ⊥
  pub ends_early : (p ≡ length t) ↔ Begins t
