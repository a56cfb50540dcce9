-- The places of hundreds and tens, and the last digit:
-- a number below 1000 right-aligned in three places (Aligned.antt of strip).
use mathlib.Core.Path.{sym, ap₂, ◌∙◌}
use mathlib.Core.List.{[], ◌∷◌}
use Prim.Native.Nat.{ℕ, ◌+◌, ◌%◌}
use Rattle.strip.proofs.Aligned.{aligned_places}
use Rattle.strip_lines.proofs.align.Goals as goal

pub returns : goal.returns
returns c =
    let n = c.args.n in
    ap₂ (λ (x y : ℕ). x ∷ y ∷ (48 + n % 10) ∷ []) c.digit.ensures c.digit-2.ensures ∙ sym (aligned_places n c.requires)
