-- DEMAND 3, of every accepted formula, C, k and B: what the search's answer says. Each line cites the theorem behind it; the sentences are
-- the fields of `Draws` (specs/Demand3.antt). The call is proved to answer by `searched`, so what is said of it holds of the call.
use mathlib.Core.Path.{◌≡◌, ◌∙◌, sym}
use mathlib.Core.Logic.{◌⊎◌, ◌≢◌}
use mathlib.Core.Bool.{true, false}
use mathlib.Core.List.{List, ◌++◌}
use Prim.Native.Nat.{ℕ, ◌+◌, ◌-◌, ◌*◌, ◌^◌, ◌≤◌}
use native.Mathlib.Omega.{arith}
use lib.ListN.{length}
use Rattle.std.specs.Prelude.{Err}
use Rattle.paper_meaning.specs.Recording.{EachBelow}
use Rattle.refusal.specs.Asked.{AllYes, FirstNo}
use Rattle.refusal.specs.declared.Refusal.{Refusal}
use Rattle.paper_grammar.specs.Trees.{Tree}
use Rattle.paper_grammar.specs.declared.Sort.TheVariants.{Formula}
use Rattle.paper_search.specs.Search.{Arrays, earlier, tree_of, unwritten, searched}
use Rattle.paper_search.proofs.Order.{order_one_way, order_either}
use Rattle.paper_search.proofs.Outcome.{trials_bound}
use Rattle.demands.specs.Calls.{IsText, Ungrammatical, formula_replies}
use Rattle.demands.specs.Demand3.{Trials, Draws}
use Rattle.demands.proofs.Obeyed.{other_replies}
use Rattle.demands.proofs.Search.{lengths, own, ours_obeys, trials_are, trials_one}

-- "Of two different recordings of equal C and k" one "comes earlier in the order", and not both
pub one_earlier : (C k : ℕ) (r s : List ℕ) → length r ≡ k → EachBelow (2 ^ C) r → length s ≡ k → EachBelow (2 ^ C) s → r ≢ s
    → (earlier C k r s ≡ true) ⊎ (earlier C k s r ≡ true)
one_earlier = order_either

pub not_both_earlier : (C k : ℕ) (r s : List ℕ) → earlier C k r s ≡ true → earlier C k s r ≡ false
not_both_earlier = order_one_way

-- N, "the number of tries until found, or until the whole tree is dead": there is one for every formula,
pub trials_exist : (C k : ℕ) (f : Tree Formula) → Trials C k f (tree_of C k f).tries
trials_exist = trials_are

-- and no other,
pub trials_unique : (C k : ℕ) (f : Tree Formula) (N M : ℕ) → Trials C k f N → Trials C k f M → N ≡ M
trials_unique C k f N M v w = trials_one C k f N v ∙ sym (trials_one C k f M w)

-- and N ≤ 2^(C·k+1) − 2
pub trials_few : (C k : ℕ) (f : Tree Formula) (N : ℕ) → Trials C k f N → N ≤ 2 ^ (C * k + 1) - 2
trials_few C k f N w = omega (arith, trials_one C k f N w, trials_bound C k f)

module _ (C k : ℕ) (t : List ℕ) (B : ℕ) (lent : Arrays) where
  module _ (f : Tree Formula) (is : IsText t f) where
    -- found, none or spent, the recording, the count, and what is written, as the demand's sentences say
    pub search_draws : AllYes (formula_replies C k t f ++ own C k t B lent f) → (N : ℕ) → Trials C k f N
        → Draws C k f B N lent.recording (searched C k t B (lengths lent) lent.recording).answer (searched C k t B (lengths lent) lent.recording).recording
    search_draws = ((ours_obeys C k t B lent).of_formula f is).all_yes

    -- refused by the first no, and the recording's array is as it was
    pub search_refused : (r : Refusal) → FirstNo (formula_replies C k t f ++ own C k t B lent f) r
        → searched C k t B (lengths lent) lent.recording ≡ unwritten lent.recording (Err r)
    search_refused = ((ours_obeys C k t B lent).of_formula f is).first_no

  -- so where the text is no formula's
  pub no_formula_refused : (p : ℕ) → Ungrammatical t p → (r : Refusal) → FirstNo (other_replies C k t p) r
      → searched C k t B (lengths lent) lent.recording ≡ unwritten lent.recording (Err r)
  no_formula_refused p u = ((ours_obeys C k t B lent).of_other p u).first_no
