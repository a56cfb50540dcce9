-- `file_of_input` reads the line, its numbers limited, and writes the file of the text:
-- the output is the same (Output.antt).
use mathlib.Core.Path.{refl, subst}
use Rattle.file_line.specs.Output.{output_for}
use Rattle.file_line.specs.Parts.{PartsWithin}
use Rattle.file_line.proofs.Output.{output_read}
use Rattle.file_line.proofs.File.{within_file}
use Rattle.file_line.proofs.file_of_input.Goals as goal

pub slice_bounds-file_of_text-count : goal.slice_bounds-file_of_text-count
slice_bounds-file_of_text-count c = (subst (PartsWithin c.args.input.now) c.in-Some.is c.read_line.ensures.1).0

pub slice_bounds-file_of_text-start : goal.slice_bounds-file_of_text-start
slice_bounds-file_of_text-start c = (subst (PartsWithin c.args.input.now) c.in-Some.is c.read_line.ensures.1).0

pub slice_bounds-file_of_text-end : goal.slice_bounds-file_of_text-end
slice_bounds-file_of_text-end c = (subst (PartsWithin c.args.input.now) c.in-Some.is c.read_line.ensures.1).1

pub returns-in_default : goal.returns-in_default
unfolding output_for
returns-in_default c = within_file _ (output_read _ c.in_default.is c.read_line.ensures.0) (refl, refl)

pub returns : goal.returns
returns c = within_file _ (output_read _ c.in-Some.is c.read_line.ensures.0) c.file_of_text.ensures
