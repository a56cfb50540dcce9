-- Each gate's clauses are one list of places, which the code stores at once;
-- that they are the definition's is computed (Gates.antt).
use Rattle.table_gates.proofs.Gates.{places_of, room_known, wrote_known, within_known}
use Rattle.paper_circuit.specs.declared.Gate.TheVariants.{Constant, Copy, Inverse, Both, Either, Step}
use mathlib.Core.Path.{refl, sym, ap}
use native.Mathlib.Omega.{arith}
use mathlib.Core.List.{◌∷◌, []}
use Rattle.table_gates.proofs.put_gate.Goals as goal

pub put-requires : goal.put-requires
put-requires c =
    let r = room_known _ c.in-Constant.is c.requires.room in (omega (arith, r.variables), omega (arith, r.marks))

pub put-requires-in-Copy : goal.put-requires-in-Copy
put-requires-in-Copy c =
    let r = room_known _ c.in-Copy.is c.requires.room in (omega (arith, r.variables), omega (arith, r.marks))

pub put-requires-in-Inverse : goal.put-requires-in-Inverse
put-requires-in-Inverse c =
    let r = room_known _ c.in-Inverse.is c.requires.room in (omega (arith, r.variables), omega (arith, r.marks))

pub put-requires-in-Both : goal.put-requires-in-Both
put-requires-in-Both c =
    let r = room_known _ c.in-Both.is c.requires.room in (omega (arith, r.variables), omega (arith, r.marks))

pub put-requires-in-Either : goal.put-requires-in-Either
put-requires-in-Either c =
    let r = room_known _ c.in-Either.is c.requires.room in (omega (arith, r.variables), omega (arith, r.marks))

pub put_any-requires : goal.put_any-requires
put_any-requires c =
    let e = c.in-AnyOf.is in record { room = room_known _ e c.requires.room; le_n = within_known e c.requires.within }

pub put-requires-in-Step : goal.put-requires-in-Step
put-requires-in-Step c =
    let r = room_known _ c.in-Step.is c.requires.room in (omega (arith, r.variables), omega (arith, r.marks))

pub returns-in-Constant : goal.returns-in-Constant
returns-in-Constant c =
    wrote_known _ c.in-Constant.is
    (c.put.ensures (places_of _ (Constant c.in-Constant.up)) refl (ap (λ m. m ∷ []) (sym c.closing.ensures)))

pub returns-in-Copy : goal.returns-in-Copy
returns-in-Copy c =
    wrote_known _ c.in-Copy.is (c.put-in-Copy.ensures (places_of _ (Copy _)) refl refl)

pub returns-in-Inverse : goal.returns-in-Inverse
returns-in-Inverse c =
    wrote_known _ c.in-Inverse.is (c.put-in-Inverse.ensures (places_of _ (Inverse _)) refl refl)

pub returns-in-Both : goal.returns-in-Both
returns-in-Both c =
    wrote_known _ c.in-Both.is (c.put-in-Both.ensures (places_of _ (Both _ _)) refl refl)

pub returns-in-Either : goal.returns-in-Either
returns-in-Either c =
    wrote_known _ c.in-Either.is (c.put-in-Either.ensures (places_of _ (Either _ _)) refl refl)

pub returns-in-AnyOf : goal.returns-in-AnyOf
returns-in-AnyOf c = wrote_known _ c.in-AnyOf.is c.put_any.ensures

pub returns-in-Step : goal.returns-in-Step
returns-in-Step c =
    wrote_known _ c.in-Step.is (c.put-in-Step.ensures (places_of _ (Step _ _ _)) refl refl)
