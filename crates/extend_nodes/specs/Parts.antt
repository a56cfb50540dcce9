-- How much of its parts' truth a node's block goes by, and what it makes of that. Nothing here need be believed: no call open to others
-- cites it.
use Rattle.std.specs.Prelude.{◌≡◌, Bool, List, ℕ, ◌+◌, ◌-◌, ◌≤◌, ◌<◌}
use Rattle.std.proofs.lemmas.List.Edits.{sets}
use Rattle.interval.specs.Places.{count_of}
use Rattle.truth_table.specs.Table.{high_at}
use Rattle.table_blocks.specs.declared.Block.{Block}
use Rattle.table_blocks.specs.declared.Rule.{Rule}
use Rattle.table_blocks.specs.declared.Rule.TheVariants.{Fixed, Letter, Negation, And, Or, Chop, Duration, Throughout, Cut}
use Rattle.extend_blocks.specs.Values.{values_by, Fits}

-- of each part, n being how long the block is; a node of one part makes nothing of a second
abbrev pub part_points : ℕ → ℕ → Rule → ℕ
part_points k n (Fixed v) = 0
part_points k n (Letter c) = 0
part_points k n Negation = n
part_points k n And = n
part_points k n Or = n
part_points k n Chop = count_of k
part_points k n (Duration m) = k
part_points k n Throughout = k
part_points k n Cut = 0

-- f is the truth of n variables from v on
abbrev pub TruthFrom : List ℕ → ℕ → ℕ → (ℕ → Bool) → Type 0
TruthFrom A v n f = (e : ℕ) → e < n → f e ≡ high_at A (v - 1 + e)

-- B is what a block of n values makes of its parts' truth, as the assignment has it
abbrev pub Makes : ℕ → List ℕ → List ℕ → Block → ℕ → List ℕ → Type 0
Makes k recording A b n B = (f g : ℕ → Bool) → TruthFrom A b.left (part_points k n b.rule) f → TruthFrom A b.right (part_points k n b.rule) g
    → values_by k recording n f g b.rule ≡ B

-- a block that ends before `end`, of an assignment of m values: it is as long as its rule says
abbrev pub BlockIn : ℕ → Block → ℕ → ℕ → Type 0
BlockIn k b end m = (1 ≤ b.first) × (b.first - 1 ≤ end) × (end ≤ m) × Fits k (end - (b.first - 1)) b.rule

-- an assignment before and after what the block makes of its parts is stored in its place
abbrev pub BlockPut : ℕ → List ℕ → Block → ℕ → List ℕ → List ℕ → Type 0
BlockPut k recording b end A A' = (B : List ℕ) → Makes k recording A b (end - (b.first - 1)) B → A' ≡ sets A (b.first - 1) B
