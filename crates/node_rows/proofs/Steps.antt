-- A column of the table is its rows' fields, and 0 beyond: so a field is read where its row stands, a store just behind the rows makes
-- them one more, and a store at a row is another row there.
use mathlib.Core.Path.{◌≡◌, refl, sym, ap, ap₂, ◌∙◌}
use mathlib.Core.Bool.{false≢true}
use mathlib.Core.List.{List, [], ◌∷◌, ◌++◌, append_assoc, map, map-append}
use Prim.Native.Nat.{ℕ, zero, suc, ◌-◌, ◌<◌}
use native.Mathlib.Omega.{arith}
use lib.ListN.{length, get_or, drop, set, replicate, length-append, length-map, get_or-append}
use lib.Seq.{set_at}
use Rattle.paper_grammar.specs.Limits.{max_nodes}
use Rattle.node_rows.specs.Table.{padded}
use Rattle.node_rows.specs.declared.Row.{Row}

-- a field of the row that stands at i
entry_after : {A : Type 0} (f : A → ℕ) (l m : List A) (i : ℕ) (r : A) → drop i l ≡ r ∷ m → (i < length (map f l)) × (get_or (map f l) i 0 ≡ f r)
entry_after f [] m zero r e = absurd (false≢true cc)
entry_after f [] m (suc i) r e = absurd (false≢true cc)
entry_after f (v ∷ l) m zero r e = let h : v ≡ r = cc in (omega arith, ap f h)
entry_after f (v ∷ l) m (suc i) r e = let g = entry_after f l m i r e in (omega (arith, g.0), g.1)

pub field_at : (f : Row → ℕ) (l m : List Row) (i : ℕ) (r : Row) → drop i l ≡ r ∷ m → get_or (padded (map f l)) i 0 ≡ f r
field_at f l m i r e = let h = entry_after f l m i r e in get_or-append (map f l) _ 0 i h.0 ∙ h.1

pub drop_map : {A B : Type 0} (f : A → B) (n : ℕ) (l : List A) → drop n (map f l) ≡ map f (drop n l)
drop_map f zero l = refl
drop_map f (suc n) [] = refl
drop_map f (suc n) (w ∷ l) = drop_map f n l

module _ (f : Row → ℕ) (done : List Row) where
  -- a column of fewer rows than there is room for, and one row more
  module _ (r : Row) (h : length done < max_nodes) where
    abbrev room : List ℕ
    room = replicate (max_nodes - length (map f (done ++ r ∷ []))) 0

    room_more : padded (map f done) ≡ map f done ++ (0 ∷ room)
    room_more =
        let e : max_nodes - length (map f done) ≡ suc (max_nodes - length (map f (done ++ r ∷ []))) =
        omega (arith, length-map done f, length-map (done ++ r ∷ []) f, length-append done (r ∷ [])) in
        ap (λ (m : ℕ). map f done ++ replicate m 0) e

    column_more : (v : ℕ) → v ≡ f r → map f done ++ (v ∷ room) ≡ padded (map f (done ++ r ∷ []))
    column_more v e =
        ap (λ (v : ℕ). map f done ++ (v ∷ room)) e ∙ sym (append_assoc (map f done) (f r ∷ []) room) ∙ ap (λ (q : List ℕ). q ++ room) (sym (map-append f done (r ∷ [])))

    pub stored_more : set (padded (map f done)) (length done) (f r) ≡ padded (map f (done ++ r ∷ []))
    stored_more = ap (λ (q : List ℕ). set q (length done) (f r)) room_more ∙ set_at (map f done) 0 room (f r) (length done) (length-map done f) ∙ column_more (f r) refl

    pub kept_more : 0 ≡ f r → padded (map f done) ≡ padded (map f (done ++ r ∷ []))
    kept_more e = room_more ∙ column_more 0 e

  -- another row in the place of one
  module _ (r r' : Row) (later : List Row) where
    same_count : length (map f (done ++ r ∷ later)) ≡ length (map f (done ++ r' ∷ later))
    same_count = omega (arith, length-map (done ++ r ∷ later) f, length-map (done ++ r' ∷ later) f, length-append done (r ∷ later), length-append done (r' ∷ later))

    split : (r : Row) → padded (map f (done ++ r ∷ later)) ≡ map f done ++ (f r ∷ map f later ++ replicate (max_nodes - length (map f (done ++ r ∷ later))) 0)
    split r =
        ap (λ (q : List ℕ). q ++ replicate (max_nodes - length (map f (done ++ r ∷ later))) 0) (map-append f done (r ∷ later)) ∙ append_assoc (map f done) (f r ∷ map f later) _

    filled : (v : ℕ) → v ≡ f r' → map f done ++ (v ∷ map f later ++ replicate (max_nodes - length (map f (done ++ r ∷ later))) 0) ≡ padded (map f (done ++ r' ∷ later))
    filled v e = ap₂ (λ (v n : ℕ). map f done ++ (v ∷ map f later ++ replicate (max_nodes - n) 0)) e same_count ∙ sym (split r')

    pub stored_at : set (padded (map f (done ++ r ∷ later))) (length done) (f r') ≡ padded (map f (done ++ r' ∷ later))
    stored_at = ap (λ (q : List ℕ). set q (length done) (f r')) (split r) ∙ set_at (map f done) (f r) _ (f r') (length done) (length-map done f) ∙ filled (f r') refl

    pub kept_at : f r ≡ f r' → padded (map f (done ++ r ∷ later)) ≡ padded (map f (done ++ r' ∷ later))
    kept_at e = split r ∙ filled (f r) e
