-- The number is twice the variable, and one more where it is plain.
-- So two numbers that follow each other are one variable.
use mathlib.Core.Path.{◌≡◌, refl}
use mathlib.Core.Bool.{Bool, true, false}
use Prim.Native.Nat.{◌≤◌}
use native.Mathlib.Omega.{arith}
use Rattle.paper_meaning.specs.Meaning.{bit}
use Rattle.search_patterns.proofs.pick.Goals as goal

bits : (u : Bool) → bit u ≤ 1
bits true = omega arith
bits false = omega arith

pub returns-then-e-lt6 : goal.returns-then-e-lt6
returns-then-e-lt6 c n u e f g = let h : n ≡ 1 = omega (arith, bits u) in rw h refl

pub returns-then-e-lt8 : goal.returns-then-e-lt8
returns-then-e-lt8 c n u e f g = let h : n ≡ 2 = omega (arith, bits u) in rw h refl

pub returns-then-e-lt10 : goal.returns-then-e-lt10
returns-then-e-lt10 c n u e f g = let h : n ≡ 3 = omega (arith, bits u) in rw h refl

pub returns : goal.returns
returns c n u e f g = let h : n ≡ 4 = omega (arith, bits u) in rw h refl
