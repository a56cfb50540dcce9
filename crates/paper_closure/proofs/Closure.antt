-- A literal is added only where every closed set that has what is there has it too, so the closure lies in each of them. It is closed
-- itself: each literal added leaves one member fewer outside the set, so as many additions as there are members leave none forced.
use mathlib.Core.Path.{◌≡◌, refl, ap}
use mathlib.Core.Logic.{⊎_elim}
use mathlib.Core.Bool.{Bool, true, false, not, ◌&&◌, true≢false}
use mathlib.Core.List.Memᴰ
use mathlib.Core.List.{List, [], ◌∷◌, flat_map, Memᴰ}
use mathlib.Core.Option.{Option, none, some}
use Prim.Native.Nat.{ℕ, zero, suc, ◌+◌, ◌≤◌, ◌<◌}
use native.Mathlib.Omega.{arith}
use lib.ListN.{length}
use Rattle.lists.proofs.Tests.{both}
use Rattle.lists.specs.Listing.{All}
use Rattle.lists.proofs.Lists.{all_append, all_map, all_split}
use borrow.Author.Tests.{not-true}
use Rattle.paper_meaning.specs.Meaning.{bit}
use Rattle.paper_meaning.proofs.Laws.{bit_le}
use Rattle.paper_clauses.specs.Clauses.{Literal, Clause}
use Rattle.paper_closure.specs.Closure.{Literals, add, all_opposed, Member, members_of, members_in, ClosedUnder, ClosureOf}
use Rattle.paper_closure.specs.Tree.{first_forced, forced, closure}
use Rattle.paper_closure.proofs.Sets.{either_way, all_in, In, Below, same_set, added, kept, add_below, Opposed, opposed_all, all_opposed_lem}

-- "each literal of a clause whose fellows in that clause are all opposed in the set" is in it
abbrev pub Keeps : (Literal → Type 0) → Member → Type 0
Keeps X m = Opposed X m.fellows → X m.self

abbrev pub Closed : List Clause → (Literal → Type 0) → Type 0
Closed T X = All (Keeps X) (members_in T)

-- ---- a table's first clause

module _ (X : Literal → Type 0) (c : Clause) (T : List Clause) where
  pub closed_parts : Closed (c ∷ T) X → All (Keeps X) (members_of c) × Closed T X
  unfolding members_in flat_map
  closed_parts a = all_split (Keeps X) (members_of c) (members_in T) a

  pub closed_whole : All (Keeps X) (members_of c) → Closed T X → Closed (c ∷ T) X
  unfolding members_in flat_map
  closed_whole a b = all_append (Keeps X) (members_of c) (members_in T) a b

-- ---- the first that is forced

data Next (ms : List Member) (S : Literals) : Option Literal → Type 0 where
  still : All (Keeps (In S)) ms → Next ms S none
  more : (m : Member) → Memᴰ m ms → Opposed (In S) m.fellows → S m.self ≡ false → Next ms S (some m.self)

idle : (S : Literals) (m : Member) → not (S m.self) && all_opposed S m.fellows ≡ false → Keeps (In S) m
idle S m h o = either_way (S m.self) (λ e. e) (λ e. absurd (true≢false (rw (e, all_opposed_lem S m.fellows o) at h)))

longer : {m : Member} {ms : List Member} {S : Literals} {o : Option Literal} → Keeps (In S) m → Next ms S o → Next (m ∷ ms) S o
longer k (still a) = still (k, a)
longer k (more m i o n) = more m (Memᴰ.tail i) o n

next : (ms : List Member) (S : Literals) → Next ms S (first_forced ms S)
unfolding first_forced
next [] S = still tt
next (m ∷ ms) S = go (not (S m.self) && all_opposed S m.fellows) refl (next ms S)
  where
    go : (b : Bool) → not (S m.self) && all_opposed S m.fellows ≡ b → Next ms S (first_forced ms S)
        → Next (m ∷ ms) S (elim b [ true ↦ some m.self | false ↦ first_forced ms S ])
    go true e n =
        let w = both (not (S m.self)) (all_opposed S m.fellows) e in
        more m (Memᴰ.head refl) (opposed_all S m.fellows w.1) (not-true (S m.self) w.0)
    go false e n = longer (idle S m e) n

-- nothing is forced: all is kept; something is: every closed set that has the set has it
pub none_forced : (ms : List Member) (S : Literals) → first_forced ms S ≡ none → All (Keeps (In S)) ms
none_forced ms S e = go (next ms S) e
  where
    go : {o : Option Literal} → Next ms S o → o ≡ none → All (Keeps (In S)) ms
    go (still a) e = a
    go (more m i o n) e = absurd (let z : ◌≡◌ {A = ℕ} 0 1 = cc in omega arith)

pub some_forced : (ms : List Member) (S : Literals) {l : Literal} → first_forced ms S ≡ some l → (X : Literal → Type 0) → All (Keeps X) ms → Below S X → X l
some_forced ms S {l} e X a h = go (next ms S) e
  where
    go : {o : Option Literal} → Next ms S o → o ≡ some l → X l
    go (still a) e = absurd (let z : ◌≡◌ {A = ℕ} 0 1 = cc in omega arith)
    go (more m i o n) e = let s : m.self ≡ l = cc in rw (← s) (all_in (Keeps X) ms a i (all_map _ _ (λ l p. h _ p) m.fellows o))

pub some_outside : (ms : List Member) (S : Literals) {l : Literal} → first_forced ms S ≡ some l → S l ≡ false
some_outside ms S {l} e = go (next ms S) e
  where
    go : {o : Option Literal} → Next ms S o → o ≡ some l → S l ≡ false
    go (still a) e = absurd (let z : ◌≡◌ {A = ℕ} 0 1 = cc in omega arith)
    go (more m i o n) e = let s : m.self ≡ l = cc in rw (← s) n

-- ---- members outside the set

abbrev outside : List Member → Literals → ℕ
outside [] S = 0
outside (m ∷ ms) S = bit (not (S m.self)) + outside ms S

outside_le : (ms : List Member) (S : Literals) → outside ms S ≤ length ms
outside_le [] S = omega arith
outside_le (m ∷ ms) S = omega (arith, bit_le (not (S m.self)), outside_le ms S)

one_less : (l : Literal) (S : Literals) (m : Member) → bit (not (add l S m.self)) ≤ bit (not (S m.self))
one_less l S m = either_way (S m.self) (λ e. rw (e, kept l S m.self e) (omega arith)) (λ e. rw e (bit_le (not (add l S m.self))))

fewer : (ms : List Member) (l : Literal) (S : Literals) → outside ms (add l S) ≤ outside ms S
fewer [] l S = omega arith
fewer (m ∷ ms) l S = omega (arith, one_less l S m, fewer ms l S)

fewer_still : (ms : List Member) (S : Literals) (m : Member) → Memᴰ m ms → S m.self ≡ false → outside ms (add m.self S) < outside ms S
fewer_still [] S m i n = absurd (Memᴰ.not-nil i)
fewer_still (x ∷ ms) S m i n =
    ⊎_elim (λ (e : m ≡ x). here (ap (λ (y : Member). y.self) e)) (λ (t : Memᴰ m ms). omega (arith, one_less m.self S x, fewer_still ms S m t n)) (Memᴰ.cases_cons i)
  where
    here : m.self ≡ x.self → outside (x ∷ ms) (add m.self S) < outside (x ∷ ms) S
    here e = rw (← e, n, added m.self S) (omega (arith, fewer ms m.self S))

-- all are in the set
none_outside : (ms : List Member) (S : Literals) → outside ms S ≤ 0 → All (Keeps (In S)) ms
none_outside [] S h = tt
none_outside (m ∷ ms) S h = (λ o. either_way (S m.self) (λ e. e) (λ e. absurd (out e)), none_outside ms S (omega arith))
  where
    out : S m.self ≡ false → ⊥
    out e = omega (arith, ap (λ b. bit (not b)) e)

-- ---- the three laws, of n additions

contains : (n : ℕ) (ms : List Member) (S : Literals) → Below S (In (forced n ms S))
unfolding forced
contains zero ms S l h = h
contains (suc n) ms S l h = go (λ m. contains n ms (add m S) l (kept m S l h)) (first_forced ms S)
  where
    go : ((m : Literal) → In (forced n ms (add m S)) l) → (o : Option Literal) → In (elim o [ none ↦ S | some m ↦ forced n ms (add m S) ]) l
    go ih none = h
    go ih (some m) = ih m

least : (n : ℕ) (ms : List Member) (S : Literals) (X : Literal → Type 0) → All (Keeps X) ms → Below S X → Below (forced n ms S) X
unfolding forced
least zero ms S X a h = h
least (suc n) ms S X a h = go (λ l x. least n ms (add l S) X a (add_below l S X h x)) (next ms S)
  where
    go : ((l : Literal) → X l → Below (forced n ms (add l S)) X) → {o : Option Literal} → Next ms S o
        → Below (elim o [ none ↦ S | some l ↦ forced n ms (add l S) ]) X
    go ih (still k) = h
    go ih (more m i o e) = ih m.self (all_in (Keeps X) ms a i (all_map _ _ (λ l p. h _ p) m.fellows o))

closed : (n : ℕ) (ms : List Member) (S : Literals) → outside ms S ≤ n → All (Keeps (In (forced n ms S))) ms
unfolding forced
closed zero ms S h = none_outside ms S h
closed (suc n) ms S h = go (λ m i e. closed n ms (add m.self S) (omega (arith, fewer_still ms S m i e))) (next ms S)
  where
    go : ((m : Member) → Memᴰ m ms → S m.self ≡ false → All (Keeps (In (forced n ms (add m.self S)))) ms) → {o : Option Literal} → Next ms S o
        → All (Keeps (In (elim o [ none ↦ S | some l ↦ forced n ms (add l S) ]))) ms
    go ih (still k) = k
    go ih (more m i o e) = ih m i e

-- ---- "the smallest set containing it and each literal of a clause whose fellows in that clause are all opposed in the set"

all_of : {A : Type 0} (P : A → Type 0) (l : List A) → ((x : A) → Memᴰ x l → P x) → All P l
all_of P [] h = tt
all_of P (x ∷ l) h = (h x (Memᴰ.head refl), all_of P l (λ y i. h y (Memᴰ.tail i)))

module _ (T : List Clause) (S : Literals) where
  under_closed : (R : Literals) → ClosedUnder T R → Closed T (In R)
  under_closed R h = all_of (Keeps (In R)) (members_in T) (λ m i o. h m i (all_opposed_lem R m.fellows o))

  pub closure_contains : Below S (In (closure T S))
  unfolding closure
  closure_contains = contains (length (members_in T)) (members_in T) S

  pub closure_closed : Closed T (In (closure T S))
  unfolding closure
  closure_closed = closed (length (members_in T)) (members_in T) S (outside_le (members_in T) S)

  pub closure_least : (X : Literal → Type 0) → Closed T X → Below S X → Below (closure T S) X
  unfolding closure
  closure_least X c h = least (length (members_in T)) (members_in T) S X c h

  pub closure_is : ClosureOf T S (closure T S)
  closure_is = record {
    contains = closure_contains;
    closed = λ m i o. all_in (Keeps (In (closure T S))) (members_in T) closure_closed i (opposed_all (closure T S) m.fellows o);
    smallest = λ Q h c. closure_least (In Q) (under_closed Q c) h;
  }

  -- there is no other
  pub closure_one : (R : Literals) → ClosureOf T S R → R ≡ closure T S
  closure_one R w = same_set (w.smallest (closure T S) closure_is.contains closure_is.closed) (closure_least (In R) (under_closed R w.closed) w.contains)

  -- a closed set is its own closure
  pub closed_same : Closed T (In S) → S ≡ closure T S
  closed_same c = same_set closure_contains (closure_least (In S) c (λ l i. i))

-- a literal of the closure added changes nothing
pub closure_add : (T : List Clause) (S : Literals) (l : Literal) → In (closure T S) l → closure T (add l S) ≡ closure T S
closure_add T S l h =
    same_set (closure_least T (add l S) (In (closure T S)) (closure_closed T S) (add_below l S _ (closure_contains T S) h))
    (closure_least T S (In (closure T (add l S))) (closure_closed T (add l S)) (λ m i. closure_contains T (add l S) m (kept l S m i)))
