-- The reader takes a printed part byte by byte: each byte of the printer is the one that the reader's step asks for, so it
-- comes to the part's end with the part in hand. Only a number could go on; what stands after a part begins with no digit.
use mathlib.Core.Path.{◌≡◌, refl, ap, ◌∙◌}
use mathlib.Core.Bool.{Bool, true, false}
use mathlib.Core.List.{List, [], ◌∷◌, ◌++◌, append_assoc}
use Prim.Native.Nat.{ℕ, zero, suc, ◌+◌, ◌*◌, ◌-◌, ◌<◌}
use native.Mathlib.Omega.{arith}
use Rattle.paper_grammar.specs.Trees.{Link, and, or, chop, Tree, constant, letter, negation, pair, duration, throughout, Letters, decimal, link_byte, constant_byte, write, text_of}
use Rattle.paper_grammar.specs.Reader.{Around, whole, negated, left, right, measured, entered, Reading, part, after, above, equals, digits}
use Rattle.paper_grammar.specs.Reader.{go, next, join, joint_of, follow, end_after, onward, run, parsed, placed, read}
use Rattle.paper_grammar.specs.declared.Sort.{Sort}
use Rattle.paper_grammar.specs.declared.Sort.TheVariants.{State, Formula}
use Rattle.paper_grammar.proofs.Decimal.{decimal_digit, decimal_more, by_digits}
use Rattle.lists.proofs.Tests.{at_each}
use Rattle.paper_grammar.proofs.Bytes.{digit_is, Clear, link_clear}

-- one byte
pub one : {r : Sort} (m : Reading r) (b : ℕ) (t : List ℕ) {n : Reading r} → next m b ≡ go n → run m (b ∷ t) ≡ run n t
unfolding run
one m b t e = ap (onward (b ∷ t) (λ n. run n t)) e

module _ {r : Sort} where
  constant_begins : (s : Sort) (v : Bool) (K : Around r s) → next (part s K) (constant_byte v) ≡ go (after (constant v) K)
  constant_begins State true K = refl
  constant_begins State false K = refl
  constant_begins Formula true K = refl
  constant_begins Formula false K = refl

  letter_begins : (c : ℕ) → c < 8 → (K : Around r State) → next (part State K) (97 + c) ≡ go (after (letter c) K)
  letter_begins = at_each (λ c. (K : Around r State) → next (part State K) (97 + c) ≡ go (after (letter c) K)) 8
      (λ K. refl) (λ K. refl) (λ K. refl) (λ K. refl) (λ K. refl) (λ K. refl) (λ K. refl) (λ K. refl)

  pub after_negated : {s : Sort} (x : Tree s) (K : Around r s) (t : List ℕ) → run (after x (negated K)) t ≡ run (after (negation x) K) t
  unfolding run follow end_after
  after_negated x K [] = refl
  after_negated x K (b ∷ t) = refl

  link_joins : {s : Sort} (l : Link s) (x : Tree s) (K : Around r s) → join s x K (joint_of s (link_byte l)) ≡ go (part s (right l x K))
  link_joins and x K = refl
  link_joins or x K = refl
  link_joins chop x K = refl

  module _ (x : Tree State) (K : Around r Formula) where
    digit_begins : (d : ℕ) → d < 10 → 0 < d → next (equals x K) (48 + d) ≡ go (digits x d K)
    digit_begins = at_each (λ d. 0 < d → next (equals x K) (48 + d) ≡ go (digits x d K)) 10
        (λ p. refl) (λ p. refl) (λ p. refl) (λ p. refl) (λ p. refl) (λ p. refl) (λ p. refl) (λ p. refl) (λ p. refl) (λ p. absurd (omega arith))

    digit_goes_on : (n d : ℕ) → d < 10 → next (digits x n K) (48 + d) ≡ go (digits x (n * 10 + d) K)
    digit_goes_on n d h = let e : 48 + d - 48 ≡ d = omega arith in rw (digit_is d h, e)

    some_digits : (n : ℕ) → 0 < n → (q : List ℕ) → run (equals x K) (decimal n ++ q) ≡ run (digits x n K) q
    some_digits = by_digits (λ n. 0 < n → (q : List ℕ) → run (equals x K) (decimal n ++ q) ≡ run (digits x n K) q)
        (λ d h p q. rw (decimal_digit d h) (one (equals x K) (48 + d) q (digit_begins d h p)))
        (λ m d h k ih p q. rw (decimal_more m d h k, append_assoc (decimal m) ((48 + d) ∷ []) q) (ih h ((48 + d) ∷ q) ∙ one (digits x m K) (48 + d) q (digit_goes_on m d k)))

    pub digits_end : (n : ℕ) (q : List ℕ) → Clear q → run (digits x n K) q ≡ run (after (duration x n) K) q
    unfolding run
    digits_end n [] c = refl
    digits_end n (b ∷ q) c = rw c

    number_read : (n : ℕ) (q : List ℕ) → Clear q → run (equals x K) (decimal n ++ q) ≡ run (after (duration x n) K) q
    number_read zero q c = rw (decimal_digit 0 (omega arith)) (one (equals x K) 48 q refl)
    number_read (suc n) q c = some_digits (suc n) (omega arith) q ∙ digits_end (suc n) q c

-- reading a printed part comes to its end
pub part_read : {r s : Sort} (x : Tree s) (K : Around r s) (q : List ℕ) → Letters 8 x → Clear q → run (part s K) (write x q) ≡ run (after x K) q
unfolding write follow
part_read {s = s} (constant v) K q w c = one (part s K) (constant_byte v) q (constant_begins s v K)
part_read (letter a) K q w c = one (part State K) (97 + a) q (letter_begins a w K)
part_read {s = s} (negation x) K q w c = one (part s K) 33 (write x q) refl ∙ part_read x (negated K) q w c ∙ after_negated x K q
part_read {s = s} (pair l x y) K q w c =
    one (part s K) 40 (write x (link_byte l ∷ write y (41 ∷ q))) refl
    ∙ part_read x (left K) (link_byte l ∷ write y (41 ∷ q)) w.0 (link_clear l)
    ∙ one (after x (left K)) (link_byte l) (write y (41 ∷ q)) (link_joins l x K)
    ∙ part_read y (right l x K) (41 ∷ q) w.1 refl
    ∙ one (after y (right l x K)) 41 q refl
part_read (duration x n) K q w c =
    one (part Formula K) 35 (write x (62 ∷ 61 ∷ decimal n ++ q)) refl
    ∙ part_read x (measured K) (62 ∷ 61 ∷ decimal n ++ q) w refl
    ∙ one (after x (measured K)) 62 (61 ∷ decimal n ++ q) refl
    ∙ one (above x K) 61 (decimal n ++ q) refl
    ∙ number_read x K n q c
part_read (throughout x) K q w c =
    one (part Formula K) 91 (write x (93 ∷ q)) refl
    ∙ part_read x (entered K) (93 ∷ q) w refl
    ∙ one (after x (entered K)) 93 q refl

-- the reader reads back every printed tree
pub reads_back : (f : Tree Formula) → Letters 8 f → read (text_of f) ≡ parsed f
unfolding read run end_after
reads_back f w = ap (placed (text_of f)) (part_read f whole [] w tt)
