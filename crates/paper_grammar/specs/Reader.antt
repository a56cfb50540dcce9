-- The reader takes a byte at a time and keeps what stands around the part that it reads. Nothing here need be believed: that it reads
-- back what is printed, that what it reads prints as the text, and what its stopping place means are theorems (proofs/Laws.antt).
use Rattle.std.specs.Prelude.{Bool, true, false, cond, ◌&&◌, ◌||◌, List, [], ◌∷◌, ℕ, ◌+◌, ◌*◌, ◌-◌, eqb, leb, length}
use Rattle.paper_grammar.specs.Trees.{Link, and, or, chop, Tree, constant, letter, negation, pair, duration, throughout}
use Rattle.paper_grammar.specs.declared.Sort.{Sort}
use Rattle.paper_grammar.specs.declared.Sort.TheVariants.{State, Formula}
use Rattle.paper_grammar.specs.declared.Lead.{Lead}
use Rattle.paper_grammar.specs.declared.Lead.TheVariants.{Leaf, Not, Open, Measure, Enter, Other}
use Rattle.paper_grammar.specs.declared.Joint.{Joint}
use Rattle.paper_grammar.specs.declared.Joint.TheVariants.{And, Or, Chop, Nothing}

-- what stands around a part, within a text of sort r: nothing, `!`, `(`, `(x&`, `#`, `[`
pub data Around (r : Sort) : Sort → Type 0 where
  whole : Around r r
  negated : {s : Sort} → Around r s → Around r s
  left : {s : Sort} → Around r s → Around r s
  right : {s : Sort} → Link s → Tree s → Around r s → Around r s
  measured : Around r Formula → Around r State
  entered : Around r Formula → Around r State

-- a part is due; a part has ended; `=` is due; a digit is due; digits that make n may go on
pub data Reading (r : Sort) : Type 0 where
  part : (s : Sort) → Around r s → Reading r
  after : {s : Sort} → Tree s → Around r s → Reading r
  above : Tree State → Around r Formula → Reading r
  equals : Tree State → Around r Formula → Reading r
  digits : Tree State → ℕ → Around r Formula → Reading r

pub data Next (r : Sort) : Type 0 where
  go : Reading r → Next r
  stop : Next r

-- the text reads as a tree, or reading stops before this rest
pub data Ending (r : Sort) : Type 0 where
  reads : Tree r → Ending r
  stops : List ℕ → Ending r

abbrev pub is_letter : ℕ → Bool
is_letter b = leb 97 b && leb b 104

abbrev pub is_digit : ℕ → Bool
is_digit b = leb 48 b && leb b 57

-- what a part's first byte begins
abbrev pub own_lead : Sort → ℕ → Lead
own_lead State b = cond (is_letter b) Leaf Other
own_lead Formula b = cond (eqb b 35) Measure (cond (eqb b 91) Enter Other)

abbrev pub lead_of : Sort → ℕ → Lead
lead_of s b = cond (eqb b 84) Leaf (cond (eqb b 70) Leaf (cond (eqb b 33) Not (cond (eqb b 40) Open (own_lead s b))))

abbrev pub begins : Lead → Bool
begins Leaf = true
begins Not = true
begins Open = true
begins Measure = true
begins Enter = true
begins Other = false

-- the first byte of a part of either sort
abbrev pub is_start : ℕ → Bool
is_start b = begins (lead_of State b) || begins (lead_of Formula b)

abbrev pub leaf_of : (s : Sort) → ℕ → Tree s
leaf_of State b = cond (is_letter b) (letter (b - 97)) (constant (eqb b 84))
leaf_of Formula b = constant (eqb b 84)

abbrev pub begin : {r : Sort} (s : Sort) → Around r s → ℕ → Lead → Next r
begin s K b Leaf = go (after (leaf_of s b) K)
begin s K b Not = go (part s (negated K))
begin s K b Open = go (part s (left K))
begin State K b Measure = stop
begin Formula K b Measure = go (part State (measured K))
begin State K b Enter = stop
begin Formula K b Enter = go (part State (entered K))
begin s K b Other = stop

-- what joins two parts
abbrev pub own_joint : Sort → ℕ → Joint
own_joint State b = Nothing
own_joint Formula b = cond (eqb b 59) Chop Nothing

abbrev pub joint_of : Sort → ℕ → Joint
joint_of s b = cond (eqb b 38) And (cond (eqb b 124) Or (own_joint s b))

abbrev pub joins : Joint → Bool
joins And = true
joins Or = true
joins Chop = true
joins Nothing = false

abbrev pub is_joint : Sort → ℕ → Bool
is_joint s b = joins (joint_of s b)

abbrev pub join : {r : Sort} (s : Sort) → Tree s → Around r s → Joint → Next r
join s x K And = go (part s (right and x K))
join s x K Or = go (part s (right or x K))
join State x K Chop = stop
join Formula x K Chop = go (part Formula (right chop x K))
join s x K Nothing = stop

-- the byte after a part
unfoldable pub follow : {r : Sort} (s : Sort) → Tree s → Around r s → ℕ → Next r
follow s x whole b = stop
follow s x (negated K) b = follow s (negation x) K b
follow s x (left K) b = join s x K (joint_of s b)
follow s x (right l y K) b = cond (eqb b 41) (go (after (pair l y x) K)) stop
follow State x (measured K) b = cond (eqb b 62) (go (above x K)) stop
follow State x (entered K) b = cond (eqb b 93) (go (after (throughout x) K)) stop

abbrev pub next : {r : Sort} → Reading r → ℕ → Next r
next (part s K) b = begin s K b (lead_of s b)
next (after x K) b = follow _ x K b
next (above x K) b = cond (eqb b 61) (go (equals x K)) stop
next (equals x K) b = cond (eqb b 48) (go (after (duration x 0) K)) (cond (is_digit b) (go (digits x (b - 48) K)) stop)
next (digits x n K) b = cond (is_digit b) (go (digits x (n * 10 + (b - 48)) K)) (follow _ (duration x n) K b)

-- the text's end after a part
unfoldable pub end_after : {r : Sort} (s : Sort) → Tree s → Around r s → Ending r
end_after s x whole = reads x
end_after s x (negated K) = end_after s (negation x) K
end_after s x (left K) = stops []
end_after s x (right l y K) = stops []
end_after s x (measured K) = stops []
end_after s x (entered K) = stops []

abbrev pub at_end : {r : Sort} → Reading r → Ending r
at_end (part s K) = stops []
at_end (after x K) = end_after _ x K
at_end (above x K) = stops []
at_end (equals x K) = stops []
at_end (digits x n K) = end_after _ (duration x n) K

abbrev pub onward : {r : Sort} → List ℕ → (Reading r → Ending r) → Next r → Ending r
onward t f (go m) = f m
onward t f stop = stops t

unfoldable pub run : {r : Sort} → Reading r → List ℕ → Ending r
run m [] = at_end m
run m (b ∷ t) = onward (b ∷ t) (λ n. run n t) (next m b)

-- the tree that a text reads as, or the place where reading stops
pub data Read (r : Sort) : Type 0 where
  parsed : Tree r → Read r
  stopped : ℕ → Read r

abbrev pub placed : {r : Sort} → List ℕ → Ending r → Read r
placed t (reads x) = parsed x
placed t (stops q) = stopped (length t - length q)

unfoldable pub read : List ℕ → Read Formula
read t = placed t (run (part Formula whole) t)

-- of the tree that a text reads as; a text that does not read is refused before
abbrev pub on_tree : {A : Type 0} → (Tree Formula → List A) → Read Formula → List A
on_tree g (parsed f) = g f
on_tree g (stopped p) = []
