-- The definitions give document 01's answers at its starred edges:
-- each is computed, from the text or the line to what is printed.
use mathlib.Core.Path.{refl}
use mathlib.Core.List.{flat_map}
use Rattle.interval.specs.Limits.{ask_steps, ask_interval}
use Rattle.lists.specs.Listing.{rows, place_in, sum, All}
use Rattle.interval.specs.Places.{count_of, intervals_of, place_of, triples_of, triple_place_of, triple_count_of}
use Rattle.paper_grammar.specs.Ascii.{ascii}
use Rattle.paper_grammar.specs.Reader.{follow, end_after, run, read}
use Rattle.paper_grammar.specs.Nodes.{nodes_of, nodes_in}
use Rattle.paper_grammar.specs.Questions.{ask_channels, ask_length, ask_grammar, ask_letters, ask_numbers, ask_nodes}
use Rattle.paper_meaning.specs.Meaning.{bit_at, channel_at, highs, every, any, lasts, fills, chops, truth}
use Rattle.paper_circuit.specs.Circuit.{width_of, blocks_of, variables_of, truth_of, own_by, own_of, defined_from, definitions_of, root_of}
use Rattle.paper_clauses.specs.Clauses.{clauses_of, clauses_by, clause_table}
use Rattle.paper_clauses.specs.Entries.{entries_of, flat, places_in}
use Rattle.table_calls.specs.Table.{sizes_of, sizes_in, ask_room, tabled}
use Rattle.file_numbers.specs.File.{bytes_of, file_of}
use Rattle.paper_meaning.specs.Recording.{ask_recording, not_below, ask_below}
use Rattle.truth_calls.specs.Evaluation.{evaluated}
use Rattle.paper_assignments.specs.Extension.{recording_by}
use Rattle.paper_closure.specs.Closure.{add, all_opposed, members_of, members_in}
use Rattle.paper_closure.specs.Runs.{clashes, is_open}
use Rattle.paper_closure.specs.Tree.{first_forced, forced, closure, lowest_open, tree_below, tree}
use Rattle.paper_search.specs.Search.{tree_of, tree_in, limited, ask_lent, searched}
use Rattle.file_line.specs.Line.{digits, number, read_line}
use Rattle.file_line.specs.Output.{output_for, output_of}
use Rattle.demands_starred.specs.Edges.{edges, Holds}

-- an edge, and those after it
infixr 5 ◌and◌
abbrev ◌and◌ : {A B : Type 0} → A → B → A × B
a and b = (a, b)

-- the one theorem of the table, a line for each sentence of document 01
pub edges_hold : All Holds edges
unfolding ascii edges evaluated ask_channels ask_steps ask_length ask_grammar ask_letters ask_numbers ask_nodes ask_interval ask_recording not_below ask_below
    follow end_after run read nodes_of nodes_in flat_map truth bit_at channel_at highs every any lasts fills chops tabled ask_room sizes_in places_in sizes_of
    rows count_of intervals_of place_of width_of blocks_of variables_of truth_of own_by own_of defined_from definitions_of root_of clauses_of clauses_by clause_table
    entries_of flat searched ask_lent sum triples_of triple_place_of place_in triple_count_of recording_by add all_opposed members_of members_in first_forced forced
    closure clashes is_open lowest_open tree_below tree tree_of tree_in limited digits number read_line output_for output_of bytes_of file_of
edges_hold =
    (refl, refl) and refl
    and refl
    and refl
    and refl
    and refl and refl
    and refl and refl
    and refl and refl and refl and refl and refl and refl
    and refl and refl
    and (refl, refl, refl)
    and tt
