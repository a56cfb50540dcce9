-- Document 01, "Formula text": "Text is ASCII, 1 to 255 bytes"; "The limits belong [..] to the text: at most 64 nodes, n at most 32, 1 to 8 channels".
use Rattle.std.specs.Prelude.{ℕ}

abbrev pub max_length : ℕ
max_length = 255

abbrev pub max_nodes : ℕ
max_nodes = 64

abbrev pub max_number : ℕ
max_number = 32

abbrev pub max_channels : ℕ
max_channels = 8
