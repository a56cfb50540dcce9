-- The sizes, the variables and the marks are stored, each from where the last ends;
-- that there is room for the whole leaves room for each (Stored.antt of file_numbers).
use Rattle.file_numbers.specs.File.{bytes_of}
use Rattle.file_numbers.proofs.Stored.{kept_long, length_file, parts_stored}
use Rattle.table_calls.specs.Table.{five_of}
use mathlib.Core.List.{flat_map}
use native.Mathlib.Omega.{arith}
use Rattle.file_calls.proofs.put_file.Goals as goal

pub put_numbers-at-requires : goal.put_numbers-at-requires
put_numbers-at-requires c = let a = c.args in omega (arith, length_file (five_of a.s) a.variables.now a.marks.now, c.requires)

pub put_numbers-end-requires : goal.put_numbers-end-requires
put_numbers-end-requires c =
    let a = c.args in let p = c.put_numbers-at.ensures in
    omega (
      arith,
      length_file (five_of a.s) a.variables.now a.marks.now,
      c.requires,
      p.1,
      kept_long a.file.now 0 (flat_map bytes_of (five_of a.s)) p.0,
    )

pub put_bytes-requires : goal.put_bytes-requires
put_bytes-requires c =
    let a = c.args in let p = c.put_numbers-at.ensures in let q = c.put_numbers-end.ensures in
    omega (
      arith,
      length_file (five_of a.s) a.variables.now a.marks.now,
      c.requires,
      p.1,
      q.1,
      kept_long a.file.now 0 (flat_map bytes_of (five_of a.s)) p.0,
      kept_long c.put_numbers-at.new.file c.put_numbers-at.result (flat_map bytes_of a.variables.now) q.0,
    )

pub returns : goal.returns
returns c =
    let a = c.args in let p = c.put_numbers-at.ensures in let q = c.put_numbers-end.ensures in
    parts_stored (five_of a.s) a.variables.now a.marks.now a.file.now p.0 p.1 q.0 q.1 c.put_bytes.ensures
