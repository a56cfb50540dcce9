-- What a call for C leaves: its answer packed into the number r, and each lent array as the call's definition has it.
use Rattle.std.specs.Prelude.{◌≡◌, List, ℕ}
use Rattle.table_calls.specs.Table.{After}
use Rattle.paper_assignments.specs.Calls.{Extended, Proposed}
use Rattle.file_calls.specs.Calls.{FileAfter}
use Rattle.paper_search.specs.Search.{Arrays, lent_of, searched, Searched, Unchanged}
use Rattle.strip.specs.Call.{Stripped}
use Rattle.answers.specs.Answers.{pack_written, pack_printed, pack_checked, pack_answer}

-- a table written, or read from a file: its sizes and its two arrays
pub record TableLeft (a : After) (r : ℕ) (sizes variables marks : List ℕ) : Type 0 where
  pub number : r ≡ pack_written a.answer
  pub new_sizes : sizes ≡ a.sizes
  pub new_variables : variables ≡ a.variables
  pub new_marks : marks ≡ a.marks

-- a recording's extension
pub record AssignmentLeft (a : Extended) (r : ℕ) (assignment : List ℕ) : Type 0 where
  pub number : r ≡ pack_written a.answer
  pub new_assignment : assignment ≡ a.assignment

-- a proposed assignment's recording
pub record RecordingLeft (a : Proposed) (r : ℕ) (recording : List ℕ) : Type 0 where
  pub number : r ≡ pack_checked a.answer
  pub new_recording : recording ≡ a.recording

-- a table's file
pub record FileLeft (a : FileAfter) (r : ℕ) (file : List ℕ) : Type 0 where
  pub number : r ≡ pack_written a.answer
  pub new_file : file ≡ a.file

-- a recording's strip
pub record StripLeft (a : Stripped) (r : ℕ) (strip : List ℕ) : Type 0 where
  pub number : r ≡ pack_printed a.answer
  pub new_strip : strip ≡ a.strip

-- the arrays that are lent to a search
abbrev pub arrays : List ℕ → List ℕ → List ℕ → List ℕ → List ℕ → Arrays
arrays variables marks values trail recording = record { variables = variables; marks = marks; values = values; trail = trail; recording = recording }

-- the search with these arrays
abbrev pub searched_with : ℕ → ℕ → List ℕ → ℕ → Arrays → Searched
searched_with C k text limit a = searched C k text limit (lent_of a.variables a.marks a.values a.trail a.recording) a.recording

-- a search: the recording is the definition's; the work arrays are free, but where it is refused they stay as they were
pub record SearchLeft (a : Searched) (r : ℕ) (before after : Arrays) : Type 0 where
  pub number : r ≡ pack_answer a.answer
  pub new_recording : after.recording ≡ a.recording
  pub variables : Unchanged a.answer before.variables after.variables
  pub marks : Unchanged a.answer before.marks after.marks
  pub values : Unchanged a.answer before.values after.values
  pub trail : Unchanged a.answer before.trail after.trail
