-- Which lines there are. Nothing here need be believed: no call open to others cites it.
use Rattle.std.specs.Prelude.{◌<◌}
use Rattle.paper_grammar.specs.Limits.{max_channels}
use Rattle.strip.specs.declared.Line.{Line}
use Rattle.strip.specs.declared.Line.TheVariants.{Ruler, Channel}

-- the ruler, and a channel's that there is
abbrev pub OfStrip : Line → Type 0
OfStrip Ruler = Unit
OfStrip (Channel c) = c < max_channels
