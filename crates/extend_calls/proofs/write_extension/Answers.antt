-- The sizes are the sums along the node table, so question 18 is asked of the true V;
-- then the channels' values and the nodes' are written over the lent assignment (Call.antt).
use Rattle.extend_calls.proofs.Call.{places_enough, channels_fit, channels_back, seated, refused_known, written_known}
use mathlib.Core.Path.{refl, sym, ap, ◌∙◌}
use Rattle.std.proofs.lemmas.Result.{err_from_is_err_and}
use Prim.Native.Nat.{◌*◌}
use lib.ListN.{length}
use lib.Seq.{length-take-le}
use native.Mathlib.Omega.{arith}
use Rattle.extend_calls.proofs.write_extension.Goals as goal

pub layout_of-layout-requires : goal.layout_of-layout-requires
layout_of-layout-requires c = (c.requires.0, c.requires.1, c.requires.2)

pub returns-in_err-ask : goal.returns-in_err-ask
returns-in_err-ask c =
    let p = err_from_is_err_and c.from_residual.result c.from_residual.ensures.1 in
    λ f t. rw (p.1, p.2) (refused_known _ _ f t c.layout_of-layout.ensures _ _ c.in_err-ask.ensures)

pub slice_bounds-put_channels-end : goal.slice_bounds-put_channels-end
slice_bounds-put_channels-end c =
    channels_fit c.layout_of-layout.ensures c.args.assignment.now (sym c.in_ok-ask.ensures)

pub slice_bounds-put_channels-end-2 : goal.slice_bounds-put_channels-end-2
slice_bounds-put_channels-end-2 c =
    let a = c.args in
    sym (length-take-le (a.k * a.c) a.assignment.now (channels_fit c.layout_of-layout.ensures a.assignment.now (sym c.in_ok-ask.ensures)))

pub put_channels-requires : goal.put_channels-requires
put_channels-requires c =
    let a = c.args in
    let fit = channels_fit c.layout_of-layout.ensures a.assignment.now (sym c.in_ok-ask.ensures) in
    (c.requires.0, omega (arith, c.requires.1, c.requires.3), length-take-le (a.k * a.c) a.assignment.now fit ∙ ap (λ k. k * a.c) (sym c.requires.3))

pub put_nodes-requires : goal.put_nodes-requires
put_nodes-requires c =
    let w = c.layout_of-layout.ensures in
    let enough = places_enough c.layout_of-layout.result.sizes.variables (length c.args.assignment.now) (sym c.in_ok-ask.ensures) in
    let fit = channels_fit w c.args.assignment.now (sym c.in_ok-ask.ensures) in
    let back = channels_back c.args.c c.args.k c.args.recording.now c.args.assignment.now c.put_channels.ensures c.requires.3 fit in
    record { k_le_max_steps = (c.requires.1, c.requires.2, omega (arith, enough, back), w.low, c.put_rows.ensures); by_index = (c.args.c, seated w) }

pub returns : goal.returns
returns c =
    λ f t. written_known c.args.c c.args.k f t c.layout_of-layout.ensures c.args.recording.now c.args.assignment.now
    (sym c.in_ok-ask.ensures) c.requires.3 c.put_channels.ensures refl c.put_nodes.ensures
