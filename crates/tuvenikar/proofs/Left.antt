-- What a call of another crate answers and leaves is what its definition has; packed into a number, the answer is the definition's still,
-- and the arrays are left as they are.
use mathlib.Core.Path.{◌≡◌, ap, ◌∙◌}
use Prim.Native.Nat.{ℕ}
use Rattle.std.specs.Prelude.{Result}
use Rattle.refusal.specs.declared.Refusal.{Refusal}
use Rattle.table_calls.specs.Table.{After}
use Rattle.paper_assignments.specs.Calls.{Extended, Proposed}
use Rattle.file_calls.specs.Calls.{FileAfter}
use Rattle.paper_search.specs.Search.{Arrays, Searched, unwritten, Unchanged}
use Rattle.paper_search.specs.declared.Answer.{Answer}
use Rattle.strip.specs.Call.{Stripped}
use Rattle.answers.specs.Answers.{pack_written, pack_printed, pack_checked, pack_answer}
use Rattle.tuvenikar.specs.Left.{TableLeft, AssignmentLeft, RecordingLeft, FileLeft, StripLeft, SearchLeft}

pub table_left_lem : {a b : After} {r : ℕ} → a ≡ b → r ≡ pack_written a.answer → TableLeft b r a.sizes a.variables a.marks
table_left_lem e p = record {
  number = p ∙ ap (λ (x : After). pack_written x.answer) e;
  new_sizes = ap (λ (x : After). x.sizes) e;
  new_variables = ap (λ (x : After). x.variables) e;
  new_marks = ap (λ (x : After). x.marks) e;
}

pub assignment_left : {a b : Extended} {r : ℕ} → a ≡ b → r ≡ pack_written a.answer → AssignmentLeft b r a.assignment
assignment_left e p = record { number = p ∙ ap (λ (x : Extended). pack_written x.answer) e; new_assignment = ap (λ (x : Extended). x.assignment) e }

pub recording_left : {a b : Proposed} {r : ℕ} → a ≡ b → r ≡ pack_checked a.answer → RecordingLeft b r a.recording
recording_left e p = record { number = p ∙ ap (λ (x : Proposed). pack_checked x.answer) e; new_recording = ap (λ (x : Proposed). x.recording) e }

pub file_left : {a b : FileAfter} {r : ℕ} → a ≡ b → r ≡ pack_written a.answer → FileLeft b r a.file
file_left e p = record { number = p ∙ ap (λ (x : FileAfter). pack_written x.answer) e; new_file = ap (λ (x : FileAfter). x.file) e }

pub strip_left : {a b : Stripped} {r : ℕ} → a ≡ b → r ≡ pack_printed a.answer → StripLeft b r a.strip
strip_left e p = record { number = p ∙ ap (λ (x : Stripped). pack_printed x.answer) e; new_strip = ap (λ (x : Stripped). x.strip) e }

pub search_left : {a : Result Answer Refusal} {b : Searched} {r : ℕ} {before after : Arrays} → unwritten after.recording a ≡ b → r ≡ pack_answer a
    → Unchanged a before.variables after.variables × Unchanged a before.marks after.marks
    → Unchanged a before.values after.values × Unchanged a before.trail after.trail → SearchLeft b r before after
search_left e p u v =
    let q = ap (λ (x : Searched). x.answer) e in
    record {
      number = p ∙ ap pack_answer q;
      new_recording = ap (λ (x : Searched). x.recording) e;
      variables = λ r n. u.0 r (q ∙ n);
      marks = λ r n. u.1 r (q ∙ n);
      values = λ r n. v.0 r (q ∙ n);
      trail = λ r n. v.1 r (q ∙ n);
    }
