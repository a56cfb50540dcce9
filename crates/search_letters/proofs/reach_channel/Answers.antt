-- The number less one is C times the instant and the channel.
-- The letters of that channel at that instant are all that reads it.
use mathlib.Core.Path.{◌≡◌, ◌∙◌}
use Prim.Native.Nat.{ℕ, suc, ◌-◌, ◌*◌, ◌<◌}
use native.Mathlib.Omega.{arith}
use Rattle.search_fanout.proofs.Cover.{reached}
use Rattle.search_fanout.proofs.Letters.{channel_suffices}
use Rattle.search_letters.proofs.Rows.{some_channel, instant_below, channel_is}
use Rattle.search_letters.proofs.reach_channel.Goals as goal

pub cell_at-at-requires : goal.cell_at-at-requires
cell_at-at-requires c =
    let w = c.args.wiring.now in let p = c.requires.le_u in some_channel w.c w.k (c.args.u - 1) (omega (arith, p.0, p.1))

pub reach_letters-requires : goal.reach_letters-requires
reach_letters-requires c =
    let a = c.args in let w = a.wiring.now in
    record { on_ground = c.requires.on_ground; t_lt_k = (instant_below w.c w.k (a.u - 1) (omega (arith, c.requires.le_u.0, c.requires.le_u.1)) c.cell_at-at.ensures, c.requires.le_u.2) }

pub returns : goal.returns
returns c =
    let a = c.args in let w = a.wiring.now in
    let g = c.requires.on_ground.0 in let x : ℕ = a.u - 1 in let h : x < w.k * w.c = omega (arith, c.requires.le_u.0, c.requires.le_u.1) in
    let e : a.u ≡ suc x = omega (arith, c.requires.le_u.0) in let o = c.cell_at-at.ensures in let at = c.cell_at-at.result in
    reached (channel_suffices w.c w.k a.u at.line at.cell (instant_below w.c w.k x h o) o.inside
    (e ∙ channel_is w.c w.k x h o) g.grid g.some) c.reach_letters.ensures
