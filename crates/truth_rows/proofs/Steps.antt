-- One step of evaluating, whatever the depth that is left: what the code makes of a row is the truth of the tree that stands there,
-- the parts' words and tables being theirs.
use mathlib.Core.Path.{◌≡◌, refl, sym, ap, ◌∙◌, subst, fun_ext}
use mathlib.Core.Bool.{Bool, not}
use mathlib.Core.List.{List}
use Prim.Native.Nat.{ℕ, ◌+◌, ◌%◌, ◌<◌}
use native.Mathlib.Nat.{mod-eq_of_lt, lt_of_not-le}
use native.Mathlib.Omega.{arith}
use lib.Dec.{eqb}
use lib.ListN.{length, get_or, get_or-eq_default}
use Rattle.interval.specs.declared.Interval.{Interval}
use Rattle.paper_grammar.specs.Limits.{max_channels}
use Rattle.paper_grammar.specs.Trees.{Link, and, or, chop, Tree, pair}
use Rattle.paper_grammar.specs.declared.Sort.{Sort}
use Rattle.paper_grammar.specs.declared.Sort.TheVariants.{State, Formula}
use Rattle.node_rows.specs.Table.{sort_code, constant_code, link_code}
use Rattle.node_rows.proofs.Forms.{Form}
use Rattle.node_calls.specs.Parts.{Stands}
use Rattle.paper_meaning.specs.Meaning.{channel_at, chops, Point, truth}
use Rattle.truth_word.specs.Word.{joined}
use Rattle.truth_table.specs.Table.{measured}
use Rattle.truth_table.specs.declared.Measure.TheVariants.{AtLeast, Throughout}
use Rattle.truth_rows.proofs.Seen.{form_at, constant_seen, negation_seen, Joins, pair_seen, letter_seen, duration_seen, throughout_seen}
use Rattle.truth_rows.specs.Rows.{AtRow}

joined_link : (recording : List ℕ) {s : Sort} (l : Link s) (x y : Tree s) → link_code l < 5 → (p : Point s)
    → joined (eqb (link_code l) 3) (truth recording x p) (truth recording y p) ≡ truth recording (pair l x y) p
unfolding truth
joined_link recording {s} and x y h p = refl
joined_link recording {s} or x y h p = refl
joined_link recording chop x y h p = absurd (omega arith)

pub state_link : (l : Link State) → link_code l < 5
state_link and = omega arith
state_link or = omega arith

pub formula_link : (l : Link Formula) → (link_code l ≡ 5 → ⊥) → link_code l < 5
formula_link and h = omega arith
formula_link or h = omega arith
formula_link chop h = absurd (h refl)

chop_link : (recording : List ℕ) (l : Link Formula) → link_code l ≡ 5 → (x y : Tree Formula) → chops (truth recording x) (truth recording y) ≡ truth recording (pair l x y)
unfolding truth
chop_link recording and e x y = absurd (omega arith)
chop_link recording or e x y = absurd (omega arith)
chop_link recording chop e x y = refl

-- what evaluating the row m gives, for every tree that stands there: a word or a table of its truth
module _ (recording K N S : List ℕ) where
  abbrev pub At : (s : Sort) → ℕ → ((Point s → Bool) → Type 0) → Type 0
  At = AtRow recording K N S

  -- row n is of the kind `op` of its sort
  abbrev pub Kind : Sort → ℕ → ℕ → Type 0
  Kind s n op = (x : Tree s) → Stands K N S n x → get_or K n 0 ≡ sort_code s + op

  form : (s : Sort) (n op : ℕ) → Kind s n op → (x : Tree s) → Stands K N S n x → (m : ℕ) → op ≡ m → Form s m x
  form s n op e x w m h = form_at recording K N S max_channels n x w m (omega (arith, e x w, h))

  module _ (s : Sort) (n op : ℕ) (e : Kind s n op) (R : (Point s → Bool) → Type 0) where
    pub constant_step : (v : Bool) → op ≡ constant_code v → R (λ p. v) → At s n R
    constant_step v h r x a w = subst R (fun_ext (constant_seen recording K N S max_channels n v (form s n op e x w (constant_code v) h))) r

    pub negation_step : (P : (Point s → Bool) → Type 0) → op ≡ 2 → ((f : Point s → Bool) → P f → R (λ p. not (f p))) → At s (n + 1) P → At s n R
    negation_step P h j r x a w =
        let (y, t) = negation_seen recording K N S max_channels n a w (form s n op e x w 2 h) in
        subst R (fun_ext t) (j _ (r y.part y.letters y.stands))

    pub pair_step : (P Q : (Point s → Bool) → Type 0) (m : ℕ) → Joins s op → ((l : Link s) → op ≡ link_code l → link_code l < 5) → m ≡ n + 1 + get_or S (n + 1) 0
        → ((f g : Point s → Bool) → P f → Q g → R (λ p. joined (eqb op 3) (f p) (g p))) → At s (n + 1) P → At s m Q → At s n R
    pair_step P Q m h h5 u j r q x a w =
        let o = pair_seen recording K N S max_channels n op x a w (e x w) h in
        let l = o.link in
        let c : op ≡ link_code l = omega (arith, o.kind, e x w) in
        let f = truth recording o.first.part in
        let g = truth recording o.second.part in
        let stands = subst (λ (m : ℕ). Stands K N S m o.second.part) (sym u) o.second.stands in
        subst R (fun_ext (λ p. ap (λ (c : ℕ). joined (eqb c 3) (f p) (g p)) c ∙ joined_link recording l o.first.part o.second.part (h5 l c) p) ∙ sym o.is)
        (j f g (r o.first.part o.first.letters o.first.stands) (q o.second.part o.second.letters stands))

  pub letter_step : (n c : ℕ) (R : (ℕ → Bool) → Type 0) → get_or K n 0 ≡ 6 → c ≡ get_or N n 0 → R (channel_at recording (c % max_channels)) → At State n R
  letter_step n c R h d r x a w =
      let o = letter_seen recording K N S max_channels n a w (form_at recording K N S max_channels n x w 6 h) in
      let i : c % max_channels ≡ get_or N n 0 = mod-eq_of_lt (omega (arith, o.0)) ∙ d in
      subst R (ap (channel_at recording) i ∙ o.1) r

  module _ (n op : ℕ) (e : Kind Formula n op) where
    module _ (P : (ℕ → Bool) → Type 0) (R : (Interval → Bool) → Type 0) (r : At State (n + 1) P) where
      pub duration_step : (c : ℕ) → op ≡ 7 → c ≡ get_or N n 0 → ((f : ℕ → Bool) → P f → R (measured (AtLeast c) f)) → At Formula n R
      duration_step c h d j x a w =
          let (y, t) = duration_seen recording K N S max_channels n a w (form Formula n op e x w 7 h) in
          subst R (ap (λ (m : ℕ). measured (AtLeast m) (truth recording y.part)) d ∙ t) (j _ (r y.part y.letters y.stands))

      pub throughout_step : op ≡ 8 → ((f : ℕ → Bool) → P f → R (measured Throughout f)) → At Formula n R
      throughout_step h j x a w =
          let (y, t) = throughout_seen recording K N S max_channels n a w (form Formula n op e x w 8 h) in
          subst R t (j _ (r y.part y.letters y.stands))

    pub chop_step : (m : ℕ) (P Q R : (Interval → Bool) → Type 0) → op ≡ 5 → m ≡ n + 1 + get_or S (n + 1) 0
        → ((f g : Interval → Bool) → P f → Q g → R (chops f g)) → At Formula (n + 1) P → At Formula m Q → At Formula n R
    chop_step m P Q R h u j r q x a w =
        let o = pair_seen recording K N S max_channels n op x a w (e x w) (omega arith, λ z. omega arith, λ z. omega arith) in
        let stands = subst (λ (m : ℕ). Stands K N S m o.second.part) (sym u) o.second.stands in
        subst R (chop_link recording o.link (omega (arith, o.kind, e x w)) o.first.part o.second.part ∙ sym o.is)
        (j _ _ (r o.first.part o.first.letters o.first.stands) (q o.second.part o.second.letters stands))

-- what is not 0 stands in the table
pub within : (l : List ℕ) (x n : ℕ) → length l ≡ n → 0 < get_or l x 0 → x < n
within l x n e h = lt_of_not-le (λ g. let z : get_or l x 0 ≡ 0 = get_or-eq_default l 0 (omega arith) in omega arith)
