-- What the code says of values and trail before a try and after it, over a list of clauses. Nothing here need be believed: no call open to
-- others cites it.
use Rattle.std.specs.Prelude.{◌≡◌, true, false, List, ℕ, ◌-◌, ◌≤◌, ◌<◌, length, get_or}
use Rattle.moments.specs.Moments.{old, new, Slice}
use Rattle.paper_clauses.specs.Clauses.{Literal, Clause, plain}
use Rattle.paper_closure.specs.Closure.{Literals, add}
use Rattle.paper_closure.specs.Runs.{clashes, is_open, NoneOpen, Lowest}
use Rattle.paper_closure.specs.Tree.{closure}
use Rattle.search_closing.specs.Values.{held_in, Trailing, undone, Ranged, Grown}
use Rattle.search_closing.specs.declared.Closed.{Closed}

-- the lowest open channel variable, or 0 where none is open
pub record Openness (values : List ℕ) (channels v : ℕ) : Type 0 where
  pub none : v ≡ 0 → NoneOpen (held_in values) channels
  pub lowest : (v ≡ 0 → ⊥) → Lowest (held_in values) channels v

-- values and trail hold the closure of a set, or that clashes
pub record Holding (T : List Clause) (S : Literals) (values trail : List ℕ) (r : Closed) : Type 0 where
  pub trailing : Trailing values trail r.top
  pub calm : r.clash ≡ false → held_in values ≡ closure T S
  pub clashing : r.clash ≡ true → clashes (length values) (closure T S) ≡ true

-- a closed set, of which v is an open variable
pub record Ready (T : List Clause) (values trail : List ℕ) (top v : ℕ) : Type 0 where
  pub trailing : Trailing values trail top
  pub closed : held_in values ≡ closure T (held_in values)
  pub from : 1 ≤ v
  pub to : v ≤ length values
  pub free : is_open (held_in values) v ≡ true

-- the trail from a place on can be undone, to such a set, of which the variable at that place is open
pub record Undoable (T : List Clause) (values trail : List ℕ) (from to : ℕ) : Type 0 where
  pub on : from < to
  pub room : to ≤ length trail
  pub ranged : Ranged values trail from to
  pub ready : Ready T (undone trail from (to - from) values) trail from (get_or trail from 0)

-- values and trail have grown since a place of the trail, where v stands
pub record Since (v : ℕ) (v₀ t₀ : List ℕ) (from : ℕ) (values trail : List ℕ) (top : ℕ) : Type 0 where
  pub grown : Grown v₀ t₀ from values trail top
  pub more : from < top
  pub first : get_or trail from 0 ≡ v

-- a try: they have grown to the closure with the literal added, or that clashes
pub record Tried (T : List Clause) (l : Literal) (v₀ t₀ : List ℕ) (top : ℕ) (values trail : List ℕ) (r : Closed) : Type 0 where
  pub since : Since l.variable v₀ t₀ top values trail r.top
  pub holding : Holding T (add l (held_in v₀)) values trail r

abbrev pub TriesLiteral : List Clause → Literal → Slice → Slice → ℕ → Closed → Type 0
TriesLiteral T l values trail top r = Tried T l (old values) (old trail) top (new values) (new trail) r

-- the variable in a place of the trail tried high, once the trail is undone from there on
abbrev pub TriesHigh : List Clause → Slice → Slice → ℕ → ℕ → Closed → Type 0
TriesHigh T values trail from to r =
    Tried T (plain (get_or (old trail) from 0)) (undone (old trail) from (to - from) (old values)) (old trail) from (new values) (new trail) r
