-- What passes from a node to its parts is known at every node: a node's own nodes stand in a row in the list of nodes, the node first,
-- then those of its first part, then those of its second.
use mathlib.Core.Path.{◌≡◌, refl, sym, ap, ◌∙◌, subst}
use mathlib.Core.List.{List, [], ◌∷◌, ◌++◌, append_assoc, append-nil}
use Prim.Native.Nat.{ℕ, zero, suc, ◌+◌, ◌<◌}
use native.Mathlib.Omega.{arith}
use lib.ListN.{length, take, drop}
use Rattle.lists.specs.Listing.{All}
use Rattle.paper_grammar.specs.Trees.{Tree, constant, letter, negation, pair, duration, throughout, Letters, Numbers, text_of}
use Rattle.paper_grammar.specs.declared.Sort.{Sort}
use Rattle.paper_grammar.specs.declared.Sort.TheVariants.{State}
use Rattle.paper_grammar.proofs.Written.{drop_front}
use Rattle.paper_grammar.specs.Nodes.{Node, node, nodes_of}

-- a tree's nodes begin with its own
pub first_node : {s : Sort} (x : Tree s) (at : ℕ) → nodes_of x at ≡ node x at ∷ drop 1 (nodes_of x at)
unfolding nodes_of
first_node (constant v) at = refl
first_node (letter c) at = refl
first_node (negation x) at = refl
first_node (pair l x y) at = refl
first_node (duration x n) at = refl
first_node (throughout x) at = refl

-- ---- the parts of a node

-- P is so of the first part, Q of the second beside the first
abbrev pub OnParts : (Node → Type 0) → (Node → Node → Type 0) → {s : Sort} → Tree s → ℕ → Type 0
OnParts P Q (constant v) at = Unit
OnParts P Q (letter c) at = Unit
OnParts P Q (negation x) at = P (node x (suc at))
OnParts P Q (pair l x y) at = P (node x (suc at)) × Q (node x (suc at)) (node y (suc (suc at + length (text_of x))))
OnParts P Q (duration x n) at = P (node x (suc at))
OnParts P Q (throughout x) at = P (node x (suc at))

pub parts_map : {P P' : Node → Type 0} {Q Q' : Node → Node → Type 0} → ((u : Node) → P u → P' u) → ((u w : Node) → P u → Q u w → Q' u w)
    → {s : Sort} (x : Tree s) (at : ℕ) → OnParts P Q x at → OnParts P' Q' x at
parts_map f g (constant v) at p = tt
parts_map f g (letter c) at p = tt
parts_map f g (negation x) at p = f (node x (suc at)) p
parts_map f g (pair l x y) at p = (f (node x (suc at)) p.0, g (node x (suc at)) (node y (suc (suc at + length (text_of x)))) p.0 p.1)
parts_map f g (duration x n) at p = f (node x (suc at)) p
parts_map f g (throughout x) at p = f (node x (suc at)) p

-- P passes from a node to its parts
abbrev pub Passes : (Node → Type 0) → Type 0
Passes P = (s : Sort) (x : Tree s) (at : ℕ) → P (node x at) → OnParts P (λ u. P) x at

abbrev pub LettersNode : ℕ → Node → Type 0
LettersNode C w = Letters C w.part

pub letters_pass : (C : ℕ) → Passes (LettersNode C)
letters_pass C s (constant v) at L = tt
letters_pass C s (letter c) at L = tt
letters_pass C s (negation x) at L = L
letters_pass C s (pair l x y) at L = L
letters_pass C s (duration x n) at L = L
letters_pass C s (throughout x) at L = L

-- a state assertion has no numbers
state_numbers : (N : ℕ) (x : Tree State) → Numbers N x
state_numbers N (constant v) = tt
state_numbers N (letter c) = tt
state_numbers N (negation x) = state_numbers N x
state_numbers N (pair l x y) = (state_numbers N x, state_numbers N y)

abbrev pub NumbersNode : ℕ → Node → Type 0
NumbersNode N w = Numbers N w.part

pub numbers_pass : (N : ℕ) → Passes (NumbersNode N)
numbers_pass N s (constant v) at n = tt
numbers_pass N s (letter c) at n = tt
numbers_pass N s (negation x) at n = n
numbers_pass N s (pair l x y) at n = n
numbers_pass N s (duration x m) at n = state_numbers N x
numbers_pass N s (throughout x) at n = state_numbers N x

pub both_pass : (P Q : Node → Type 0) → Passes P → Passes Q → Passes (λ w. P w × Q w)
both_pass P Q f g s (constant v) at p = tt
both_pass P Q f g s (letter c) at p = tt
both_pass P Q f g s (negation x) at p = (f _ (negation x) at p.0, g _ (negation x) at p.1)
both_pass P Q f g s (pair l x y) at p = let a = f _ (pair l x y) at p.0 in let b = g _ (pair l x y) at p.1 in ((a.0, b.0), (a.1, b.1))
both_pass P Q f g s (duration x n) at p = (f _ (duration x n) at p.0, g _ (duration x n) at p.1)
both_pass P Q f g s (throughout x) at p = (f _ (throughout x) at p.0, g _ (throughout x) at p.1)

-- ---- the nodes from a node on

-- a list of nodes begins with those of w
pub record Begins (l : List Node) (w : Node) : Type 0 where
  pub later : List Node
  pub is : l ≡ nodes_of w.part w.first ++ later

pub begins_first : {l : List Node} {w : Node} → (b : Begins l w) → l ≡ w ∷ drop 1 (nodes_of w.part w.first) ++ b.later
begins_first {w = w} b = b.is ∙ ap (λ (q : List Node). q ++ b.later) (first_node w.part w.first)

pub begins_whole : {s : Sort} (x : Tree s) (at : ℕ) → Begins (nodes_of x at) (node x at)
begins_whole x at = record { later = []; is = sym (append-nil (nodes_of x at)) }

-- the first part's nodes follow the node, the second part's follow those
pub parts_begin : (l : List Node) (n : ℕ) {s : Sort} (x : Tree s) (at : ℕ) → Begins (drop n l) (node x at)
    → OnParts (Begins (drop (n + 1) l)) (λ u. Begins (drop (n + 1 + length (nodes_of u.part u.first)) l)) x at
unfolding nodes_of
parts_begin l n (constant v) at b = tt
parts_begin l n (letter c) at b = tt
parts_begin l n (negation x) at b = record { later = b.later; is = drop_front l n (_ ∷ []) _ b.is }
parts_begin l n (pair o x y) at b =
    let X = nodes_of x (suc at) in
    let Y = nodes_of y (suc (suc at + length (text_of x))) in
    let e : drop (n + 1) l ≡ X ++ (Y ++ b.later) = drop_front l n (_ ∷ []) _ b.is ∙ append_assoc X Y b.later in
    (record { later = Y ++ b.later; is = e }, record { later = b.later; is = drop_front l (n + 1) X (Y ++ b.later) e })
parts_begin l n (duration x c) at b = record { later = b.later; is = drop_front l n (_ ∷ []) _ b.is }
parts_begin l n (throughout x) at b = record { later = b.later; is = drop_front l n (_ ∷ []) _ b.is }

any_pass : Passes (λ w. Unit)
any_pass s x at p = parts_map {P = Begins (drop (0 + 1) (nodes_of x at))} {Q = λ u. Begins (drop (0 + 1 + length (nodes_of u.part u.first)) (nodes_of x at))} (λ u b. tt) (λ u w b d. tt) x at (parts_begin (nodes_of x at) 0 x at (begins_whole x at))

module _ (P : Node → Type 0) where
  -- P is so of each node, and the nodes from it on begin with its own
  abbrev pub Each : List Node → Type 0
  Each [] = Unit
  Each (w ∷ l) = P w × Begins (w ∷ l) w × Each l

  module _ (pass : Passes P) where
    each : {s : Sort} (x : Tree s) (at : ℕ) (m : List Node) → P (node x at) → Each m → Each (nodes_of x at ++ m)
    unfolding nodes_of
    each (constant v) at m p r = (p, record { later = m; is = refl }, r)
    each (letter c) at m p r = (p, record { later = m; is = refl }, r)
    each (negation x) at m p r = (p, record { later = m; is = refl }, each x (suc at) m (pass _ (negation x) at p) r)
    each (pair l x y) at m p r =
        let X = nodes_of x (suc at) in
        let Y = nodes_of y (suc (suc at + length (text_of x))) in
        let q = pass _ (pair l x y) at p in
        (p, record { later = m; is = refl }, subst Each (sym (append_assoc X Y m)) (each x (suc at) (Y ++ m) q.0 (each y _ m q.1 r)))
    each (duration x n) at m p r = (p, record { later = m; is = refl }, each x (suc at) m (pass _ (duration x n) at p) r)
    each (throughout x) at m p r = (p, record { later = m; is = refl }, each x (suc at) m (pass _ (throughout x) at p) r)

    pub each_node : {s : Sort} (x : Tree s) (at : ℕ) → P (node x at) → Each (nodes_of x at)
    each_node x at p = subst Each (append-nil (nodes_of x at)) (each x at [] p tt)

  pub each_all : (Q : Node → Type 0) → ((w : Node) → P w → Q w) → (l : List Node) → Each l → All Q l
  each_all Q f [] r = tt
  each_all Q f (w ∷ l) r = (f w r.0, each_all Q f l r.2)

  -- the node y of a list, from 0
  pub record Chosen (l : List Node) (y : ℕ) : Type 0 where
    pub chosen : Node
    pub holds : P chosen
    pub begins : Begins (drop y l) chosen
    pub front : take (suc y) l ≡ take y l ++ chosen ∷ []
    pub back : drop y l ≡ chosen ∷ drop (suc y) l

  pub choose : (l : List Node) (y : ℕ) → Each l → y < length l → Chosen l y
  choose [] y r h = absurd (omega arith)
  choose (w ∷ l) zero r h = record { chosen = w; holds = r.0; begins = r.1; front = refl; back = refl }
  choose (w ∷ l) (suc y) r h =
      let c = choose l y r.2 (omega arith) in
      record { chosen = c.chosen; holds = c.holds; begins = c.begins; front = ap (λ (q : List Node). w ∷ q) c.front; back = c.back }

-- the nodes from each node on begin with its own
pub each_begins : {s : Sort} (x : Tree s) (at : ℕ) → Each (λ w. Unit) (nodes_of x at)
each_begins x at = each_node (λ w. Unit) any_pass x at tt
