-- Each pattern's table is compared with what its clauses force, entry by entry (Table.antt).
-- Only a step's goes by the fourth value.
use mathlib.Core.Path.{refl}
use Rattle.search_patterns.specs.declared.Pattern.TheVariants.{Copy, Inverse, Both, Either, Step, Low, High, Raised}
use Rattle.search_patterns.proofs.Table.{table_for, forced_three, forced_four}
use Rattle.search_patterns.proofs.forced.Goals as goal

pub returns-in-Copy : goal.returns-in-Copy
unfolding table_for
returns-in-Copy c =
    let s = c.args in
    forced_three Copy s.a s.b s.c s.d c.requires.0 c.requires.1 c.requires.2 c.requires.3 c.in-Copy.is refl c.wide.ensures c.wide-2.ensures
    c.wide-3.ensures

pub returns-in-Inverse : goal.returns-in-Inverse
unfolding table_for
returns-in-Inverse c =
    let s = c.args in
    forced_three Inverse s.a s.b s.c s.d c.requires.0 c.requires.1 c.requires.2 c.requires.3 c.in-Inverse.is refl c.wide.ensures c.wide-2.ensures
    c.wide-3.ensures

pub returns-in-Both : goal.returns-in-Both
unfolding table_for
returns-in-Both c =
    let s = c.args in
    forced_three Both s.a s.b s.c s.d c.requires.0 c.requires.1 c.requires.2 c.requires.3 c.in-Both.is refl c.wide.ensures c.wide-2.ensures
    c.wide-3.ensures

pub returns-in-Either : goal.returns-in-Either
unfolding table_for
returns-in-Either c =
    let s = c.args in
    forced_three Either s.a s.b s.c s.d c.requires.0 c.requires.1 c.requires.2 c.requires.3 c.in-Either.is refl c.wide.ensures c.wide-2.ensures
    c.wide-3.ensures

pub returns-in-Step : goal.returns-in-Step
unfolding table_for
returns-in-Step c =
    let s = c.args in
    forced_four Step s.a s.b s.c s.d c.requires.0 c.requires.1 c.requires.2 c.requires.3 c.in-Step.is refl c.wide.ensures c.wide-2.ensures
    c.wide-3.ensures c.wide-in-Step.ensures

pub returns-in-Low : goal.returns-in-Low
unfolding table_for
returns-in-Low c =
    let s = c.args in
    forced_three Low s.a s.b s.c s.d c.requires.0 c.requires.1 c.requires.2 c.requires.3 c.in-Low.is refl c.wide.ensures c.wide-2.ensures
    c.wide-3.ensures

pub returns-in-High : goal.returns-in-High
unfolding table_for
returns-in-High c =
    let s = c.args in
    forced_three High s.a s.b s.c s.d c.requires.0 c.requires.1 c.requires.2 c.requires.3 c.in-High.is refl c.wide.ensures c.wide-2.ensures
    c.wide-3.ensures

pub returns-in-Raised : goal.returns-in-Raised
unfolding table_for
returns-in-Raised c =
    let s = c.args in
    forced_three Raised s.a s.b s.c s.d c.requires.0 c.requires.1 c.requires.2 c.requires.3 c.in-Raised.is refl c.wide.ensures c.wide-2.ensures
    c.wide-3.ensures
