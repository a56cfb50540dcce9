-- `put_chop` puts the chop's table, whose bytes are its truths in order (Tables.antt), and then its triples, into what is left:
-- that is as much as they need.
use mathlib.Core.Path.{◌≡◌, ap₂, ◌∙◌}
use mathlib.Core.List.{List, ◌++◌, append-nil}
use Prim.Native.Nat.{ℕ, ◌-◌}
use native.Mathlib.Omega.{arith}
use lib.ListN.{length, take, drop, length-append}
use lib.Seq.{length-take-le, take_at, drop_at, drop-length}
use borrow.Rule.Slice.PartMut.{put_mid}
use Rattle.interval.specs.Places.{count_of}
use Rattle.extend_blocks.proofs.Tables.{table_values, bits_table}
use borrow.Author.Rules.{rules}
use Rattle.extend_blocks.proofs.put_chop.Goals as goal

-- a list whose rest is put anew
rest_put : (a : ℕ) (x r y : List ℕ) → length x ≡ a → put_mid a (length (x ++ r) - a) (x ++ r) y ≡ x ++ y
rest_put a x r y e =
    let n : length (x ++ r) - a ≡ length r = omega (arith, length-append x r) in
    rw (n, take_at x r a e, drop_at x r a e, drop-length r, append-nil y)

pub returns : goal.returns
returns c =
    let a = c.args in let n = c.all-count in
    let w : length (take n.result a.out.now) ≡ count_of a.k = length-take-le n.result a.out.now (omega arith) ∙ n.ensures.0 in
    let T = c.chop_table.ensures _ _ (bits_table c.requires.2) (bits_table c.requires.3) in let t = c.put_table in
    let e = t.ensures ∙ table_values a.k _ w T in
    rest_put n.result t.new.out (drop n.result a.out.now) _ (search rules) ∙ ap₂ (λ (x y : List ℕ). x ++ y) e c.put_triples.ensures
