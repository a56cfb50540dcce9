-- A set closed under renamed clauses, read through the new names, is closed under the clauses as they were, and the other way round.
-- Both are shown clause by clause, member by member.
use mathlib.Core.List.{List, [], ◌∷◌, map, flat_map}
use Prim.Native.Nat.{ℕ}
use Rattle.lists.specs.Listing.{All}
use Rattle.lists.proofs.Lists.{all_map, all_mapped, unmapped}
use Rattle.paper_clauses.specs.Clauses.{Literal, Clause}
use Rattle.paper_closure.specs.Closure.{opposite, Member, member, members_of, members_in}
use Rattle.paper_closure.proofs.Sets.{Opposed}
use Rattle.paper_closure.proofs.Closure.{Keeps, Closed, closed_parts, closed_whole}
use Rattle.search_patterns.specs.Patterns.{rename_by, renamed}

module _ (f : ℕ → ℕ) where
  abbrev other : Member → Member
  other m = member (rename_by f m.self) (map (rename_by f) m.fellows)

  abbrev joining : Literal → Member → Member
  joining l m = member m.self (l ∷ m.fellows)

  members_to : (P : Member → Type 0) (c : Clause) → All (λ m. P (other m)) (members_of c) → All P (members_of (map (rename_by f) c))
  unfolding members_of
  members_to P [] a = tt
  members_to P (l ∷ c) a = (
    a.0,
    all_mapped P (λ m. P (joining (rename_by f l) m)) (joining (rename_by f l)) (members_of (map (rename_by f) c)) (λ m p. p)
        (members_to (λ m. P (joining (rename_by f l) m)) c (unmapped (λ m. P (other m)) (λ m. P (other (joining l m))) (joining l) (λ m p. p) (members_of c) a.1)),
  )

  members_from : (P : Member → Type 0) (c : Clause) → All P (members_of (map (rename_by f) c)) → All (λ m. P (other m)) (members_of c)
  unfolding members_of
  members_from P [] a = tt
  members_from P (l ∷ c) a = (
    a.0,
    all_mapped (λ m. P (other m)) (λ m. P (other (joining l m))) (joining l) (members_of c) (λ m p. p)
        (members_from (λ m. P (joining (rename_by f l) m)) c (unmapped P (λ m. P (joining (rename_by f l) m)) (joining (rename_by f l)) (λ m p. p) (members_of (map (rename_by f) c)) a.1)),
  )

  module _ (X : Literal → Type 0) where
    abbrev Y : Literal → Type 0
    Y l = X (rename_by f l)

    opposed_to : (c : Clause) → Opposed Y c → Opposed X (map (rename_by f) c)
    opposed_to c o = all_mapped (λ l. X (opposite l)) (λ l. Y (opposite l)) (rename_by f) c (λ l p. p) o

    opposed_from : (c : Clause) → Opposed X (map (rename_by f) c) → Opposed Y c
    opposed_from c o = unmapped (λ l. X (opposite l)) (λ l. Y (opposite l)) (rename_by f) (λ l p. p) c o

    pub closed_to : (T : List Clause) → Closed T Y → Closed (renamed f T) X
    unfolding renamed members_in flat_map
    closed_to [] a = tt
    closed_to (c ∷ T) a =
        let w = closed_parts Y c T a in
        closed_whole X (map (rename_by f) c) (renamed f T)
        (members_to (Keeps X) c (all_map (Keeps Y) (λ m. Keeps X (other m)) (λ m k o. k (opposed_from m.fellows o)) (members_of c) w.0))
        (closed_to T w.1)

    pub closed_from : (T : List Clause) → Closed (renamed f T) X → Closed T Y
    unfolding renamed members_in flat_map
    closed_from [] a = tt
    closed_from (c ∷ T) a =
        let w = closed_parts X (map (rename_by f) c) (renamed f T) a in
        closed_whole Y c T (all_map (λ m. Keeps X (other m)) (Keeps Y) (λ m k o. k (opposed_to m.fellows o)) (members_of c) (members_from (Keeps X) c w.0)) (closed_from T w.1)
