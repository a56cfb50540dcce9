-- A list has an assignment's truths from `at` on in its first e places and 0 at the others, so its bytes are bits; and where e is n,
-- or as many as there are, it has n of these truths, since past the assignment's end every truth is no.
use mathlib.Core.Path.{◌≡◌, sym, ap, ◌∙◌}
use mathlib.Core.Bool.{Bool, false}
use mathlib.Core.List.{List}
use Prim.Native.Nat.{ℕ, ◌+◌, ◌-◌, ◌≤◌, ◌<◌, min}
use native.Mathlib.Nat.{zero-add}
use native.Mathlib.Decide.{dec_lt}
use native.Mathlib.Omega.{arith}
use lib.Dec.{eqb}
use lib.ListN.{length, get_or, take, drop, length-take, get_or-eq_default}
use lib.Seq.{get_or-take, get_or-drop}
use Rattle.std.specs.List.{enumerate_from}
use Rattle.std.proofs.lemmas.List.{get_or_read}
use Rattle.std.proofs.lemmas.List.FromFn.{length-enumerate_from, get_or-enumerate_from}
use Rattle.lists.proofs.Fill.{Upto}
use Rattle.paper_meaning.specs.Meaning.{bit}
use Rattle.paper_meaning.proofs.Words.{high_bit}
use Rattle.truth_table.specs.Table.{high_at, Binary}

-- the i-th of n bytes from `at` on, with its place among these
pub item : (A : List ℕ) (n at i e x : ℕ) → i < length (enumerate_from 0 (take n (drop at A))) → (e, x) ≡ get_or (enumerate_from 0 (take n (drop at A))) i (e, x)
    → (e ≡ i) × (i < n) × (x ≡ get_or A (at + i) 0)
item A n at i e x h q =
    let s : List ℕ = take n (drop at A) in
    let l : i < length s = omega (arith, length-enumerate_from 0 s) in
    let m : i < n = omega (arith, length-take n (drop at A)) in
    let p : (e, x) ≡ (0 + i, get_or s i x) = q ∙ get_or-enumerate_from 0 s i (e, x) l in
    (ap (λ (p : ℕ × ℕ). p.0) p ∙ zero-add i, m, get_or_read s i x l (ap (λ (p : ℕ × ℕ). p.1) p) 0 ∙ get_or-take n (drop at A) i 0 m ∙ get_or-drop at A i 0)

is_bit : (x : ℕ) (b : Bool) → x ≡ bit b → x ≡ bit (eqb x 1)
is_bit x b e = e ∙ ap bit (sym (high_bit b)) ∙ ap (λ (y : ℕ). bit (eqb y 1)) (sym e)

pub taken : (A : List ℕ) (first at n : ℕ) {N e : ℕ} {t : List ℕ} → at ≡ first - 1 → min n (length A - at) ≤ e → Upto N (λ y. bit (high_at A (at + y))) (λ y. 0) e t
    → Binary t × ((y : ℕ) → y < n → high_at t y ≡ high_at A (first - 1 + y))
taken A first at n {e = e} {t = t} o h u =
    (record { at = λ y. bits y (dec_lt y e) }, λ y l. truths y l (dec_lt y e) ∙ ap (λ (a : ℕ). high_at A (a + y)) o)
  where
    bits : (y : ℕ) → Dec (y < e) → get_or t y 0 ≡ bit (high_at t y)
    bits y (yes b) = is_bit (get_or t y 0) (high_at A (at + y)) (u.below y b)
    bits y (no b) = is_bit (get_or t y 0) false (u.beyond y (omega arith))

    truths : (y : ℕ) → y < n → Dec (y < e) → high_at t y ≡ high_at A (at + y)
    truths y l (yes b) = ap (λ (x : ℕ). eqb x 1) (u.below y b) ∙ high_bit (high_at A (at + y))
    truths y l (no b) = ap (λ (x : ℕ). eqb x 1) (u.beyond y (omega arith) ∙ sym (get_or-eq_default A 0 (omega arith)))
