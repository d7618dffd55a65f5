-- The nodes of a canonical expression as nodes of a bank.
use Rattle.std.specs.Prelude.{◌≡◌, ℕ, suc, ◌-◌, Bool, true, ◌&&◌, nat_le, List, [], ◌∷◌, length}
use Rattle.core_expr.specs.declared.row.Row.{Row}
use Rattle.core_expr.specs.Tree.{Tree}
use Rattle.core_expr.specs.Heads.{kind_number, is_canonical_kind}
use Rattle.core_expr.specs.Flat.{build}
use Rattle.core_expr.specs.Coding.{onto}
use Rattle.core_expr.specs.Nodes.{Node, node_numbers, node_fits, AreBelow, picked}

-- the node over these parts
abbrev pub row_node : Row → List ℕ → Node
row_node r ps = record { head = kind_number r.kind; numbers = node_numbers r.kind r.numbers; parts = ps }

abbrev pub row_fits : Row → Bool
row_fits r = node_fits (kind_number r.kind) (node_numbers r.kind r.numbers) r.parts

-- n trees are enough for the first of these nodes, and what it leaves for the others; and each is a node of a bank
abbrev pub fed : ℕ → List Row → Bool
fed n [] = true
fed n (r ∷ rs) = (is_canonical_kind r.kind && row_fits r) && (nat_le r.parts n && fed (suc (n - r.parts)) rs)

-- with the trees of these indices, the last uppermost, the nodes that are left complete t
pub record IsRun (ts : List Tree) (stack : List ℕ) (rs : List Row) (t : Tree) : Type 0 where
  pub below : AreBelow (length ts) stack
  pub built : build rs (onto (picked ts stack) []) ≡ t ∷ []
  pub fits : fed (length stack) rs ≡ true
