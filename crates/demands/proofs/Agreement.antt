-- TWO ENGINES CANNOT PART. An answer fulfils the demands where it is as their sentences say (specs/: predicates that name no call of ours).
-- Ours does; whatever does is ours; so two that do are the same: verdict, node text, table, file, extension, acceptance or clause number,
-- strip, outcome, recording and count, and every refusal. Only what the search's work arrays hold after a search is free.
use mathlib.Core.Path.{◌≡◌, sym, ◌∙◌}
use mathlib.Core.List.{List}
use Prim.Native.Nat.{ℕ}
use Rattle.file_numbers.specs.File.{Octets}
use Rattle.node_calls.specs.Calls.{node_place_of}
use Rattle.truth_calls.specs.Evaluation.{evaluated}
use Rattle.table_calls.specs.Table.{tabled}
use Rattle.table_layout.specs.declared.Sizes.{Sizes}
use Rattle.paper_assignments.specs.Calls.{extended, proposed}
use Rattle.file_calls.specs.Calls.{file_written, file_read}
use Rattle.file_line.specs.Output.{output_of}
use Rattle.strip.specs.Call.{stripped}
use Rattle.demands.specs.Demand2.{Evaluates, Locates, Tables, Extends, Checks, Writes, Reads, Outputs, Strips}
use Rattle.demands.specs.Demand3.{Search, Searches}
use Rattle.demands.proofs.Answers.{evaluated_obeys, evaluated_only, located_obeys, located_only, tabled_obeys, tabled_only, extended_obeys, extended_only, proposed_obeys, proposed_only}
use Rattle.demands.proofs.Files.{written_follows, written_only, read_follows, read_only, output_obeys, output_only}
use Rattle.demands.proofs.Strips.{stripped_follows, stripped_only}
use Rattle.demands.proofs.Search.{Contract, Alike, contract_searches, searches_contract, searches_alike}
use Rattle.paper_search.specs.Search.{Arrays}

-- a demand that one answer fulfils, and no other
pub record Exactly {A : Type 0} (Demand : A → Type 0) (ours : A) : Type 0 where
  pub fulfilled : Demand ours
  pub only : (x : A) → Demand x → x ≡ ours

pub agree : {A : Type 0} {Demand : A → Type 0} {ours : A} → Exactly Demand ours → (x y : A) → Demand x → Demand y → x ≡ y
agree e x y p q = e.only x p ∙ sym (e.only y q)

pub evaluation : (C k i j : ℕ) (t recording : List ℕ) → Exactly (Evaluates C k i j t recording) (evaluated C k i j t recording)
evaluation C k i j t recording = record { fulfilled = evaluated_obeys C k i j t recording; only = evaluated_only C k i j t recording }

pub node_text : (C k x : ℕ) (t : List ℕ) → Exactly (Locates C k x t) (node_place_of C k x t)
node_text C k x t = record { fulfilled = located_obeys C k x t; only = located_only C k x t }

pub table : (C k : ℕ) (t sizes variables marks : List ℕ) → Exactly (Tables C k t sizes variables marks) (tabled C k t sizes variables marks)
table C k t sizes variables marks = record { fulfilled = tabled_obeys C k t sizes variables marks; only = tabled_only C k t sizes variables marks }

pub extension : (C k : ℕ) (t recording assignment : List ℕ) → Exactly (Extends C k t recording assignment) (extended C k t recording assignment)
extension C k t recording assignment = record { fulfilled = extended_obeys C k t recording assignment; only = extended_only C k t recording assignment }

pub check : (C k : ℕ) (t A recording : List ℕ) → Exactly (Checks C k t A recording) (proposed C k t A recording)
check C k t A recording = record { fulfilled = proposed_obeys C k t A recording; only = proposed_only C k t A recording }

pub file_writer : (s : Sizes) (variables marks file : List ℕ) → Exactly (Writes s variables marks file) (file_written s variables marks file)
file_writer s variables marks file = record { fulfilled = written_follows s variables marks file; only = written_only s variables marks file }

-- the file's bytes are bytes
pub file_reader : (file sizes variables marks : List ℕ) → Octets file → Exactly (Reads file sizes variables marks) (file_read file sizes variables marks)
file_reader file sizes variables marks o = record { fulfilled = read_follows file sizes variables marks o; only = read_only file sizes variables marks o }

pub file_program : (input : List ℕ) → Exactly (Outputs input) (output_of input)
file_program input = record { fulfilled = output_obeys input; only = output_only input }

pub strip : (C k : ℕ) (recording lent : List ℕ) → Exactly (Strips C k recording lent) (stripped C k recording lent)
strip C k recording lent = record { fulfilled = stripped_follows C k recording lent; only = stripped_only C k recording lent }

-- the search: its contract is the demand,
pub search_fulfilled : (C k : ℕ) (t : List ℕ) (B : ℕ) (lent : Arrays) (x : Search) → Contract C k t B lent x → Searches C k t B lent x
search_fulfilled = contract_searches

pub search_only : (C k : ℕ) (t : List ℕ) (B : ℕ) (lent : Arrays) (x : Search) → Searches C k t B lent x → Contract C k t B lent x
search_only = searches_contract

-- and two engines agree on outcome, count and recording, and where they refuse on every array
pub searches_agree : (C k : ℕ) (t : List ℕ) (B : ℕ) (lent : Arrays) (x y : Search) → Searches C k t B lent x → Searches C k t B lent y → Alike x y
searches_agree C k t B lent x y = searches_alike C k t B lent
