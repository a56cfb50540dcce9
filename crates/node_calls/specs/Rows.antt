-- A formula's node table, as the code of the calls goes by it. Nothing here need be believed: no call open to others cites it.
use Rattle.std.specs.Prelude.{◌≡◌, map, ℕ}
use Rattle.paper_grammar.specs.Trees.{Tree, Letters}
use Rattle.paper_grammar.specs.declared.Sort.TheVariants.{Formula}
use Rattle.paper_grammar.specs.Nodes.{nodes_of}
use Rattle.node_rows.specs.Table.{row_of, table_of}
use Rattle.node_rows.specs.declared.NodeTable.{NodeTable}

abbrev pub node_table_of : Tree Formula → NodeTable
node_table_of f = table_of (map row_of (nodes_of f 0))

-- the node table is that of a formula of C channels
pub record TableFor (C : ℕ) (f : Tree Formula) (T : NodeTable) : Type 0 where
  pub letters : Letters C f
  pub is : T ≡ node_table_of f
