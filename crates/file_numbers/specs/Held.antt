-- What the code knows once question 15 is answered with yes. Nothing here need be believed: no call open to others cites it.
use Rattle.std.specs.Prelude.{◌≡◌, List, ℕ, length}
use Rattle.table_layout.specs.declared.Sizes.{Sizes}
use Rattle.file_numbers.specs.File.{file_length, sizes_at}

-- these are the file's sizes, and it is as long as they say
pub record Held (file : List ℕ) (s : Sizes) : Type 0 where
  pub sizes : s ≡ sizes_at file
  pub long : length file ≡ file_length s.literals
