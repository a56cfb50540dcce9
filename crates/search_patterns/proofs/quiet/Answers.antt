-- The bits of the gate say where it forces nothing; the place of the bit is made of the three values.
-- Whatever the fourth value is, the gate's bits hold.
use Rattle.search_patterns.proofs.quiet.Goals as goal

pub returns : goal.returns
returns c =
    λ d h e.
    c.quiet_bits.ensures c.args.a c.args.b c.args.c d c.requires.0 c.requires.1 c.requires.2 h (rw (c.wide.ensures, c.wide-2.ensures, c.wide-3.ensures) at e)
