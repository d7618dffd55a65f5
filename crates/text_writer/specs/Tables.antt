-- Tables of trees: each different node once, in order of completion from left to right.
use Rattle.std.specs.Prelude.{ℕ, cond, List, [], ◌∷◌, ◌++◌}
use Rattle.std.specs.List.{list_any, position_or_len}
use Rattle.core_expr.specs.declared.canon.Canon.{Canon}
use Rattle.core_expr.specs.declared.row.RowKind.{RowKind}
use Rattle.core_expr.specs.Tree.{Tree, Parts}
use Rattle.core_expr.specs.Tree.Tree.{bound, app, node, bind}
use Rattle.core_expr.specs.Tree.Parts.{end, part}
use Rattle.core_expr.specs.Heads.{kind_number}
use Rattle.core_expr.specs.Nodes.{node_numbers}
use Rattle.core_expr.specs.Places.{kind_of, root_numbers}
use Rattle.seq_calculus.specs.declared.lists.ProofNode.{ProofNode}
use Rattle.proof_text.specs.Texts.{Obligation, written_obligation}
use Rattle.text_writer.specs.Keys.{same_node}

-- a table, and the place of a tree in it
pub record Placed : Type 0 where
  pub nodes : List ProofNode
  pub place : ℕ

-- a table, and the places of trees in it
pub record AllPlaced : Type 0 where
  pub nodes : List ProofNode
  pub places : List ℕ

-- the place of a node in a table, the length where it is not there
abbrev pub seek : ProofNode → List ProofNode → ℕ
seek n ns = position_or_len (same_node n) ns

-- the table with this node, which goes last unless it is there
abbrev pub with_node : ProofNode → List ProofNode → List ProofNode
with_node n ns = cond (list_any (same_node n) ns) ns (ns ++ n ∷ [])

abbrev pub put : ProofNode → List ProofNode → Placed
put n ns = record { nodes = with_node n ns; place = seek n ns }

-- the node of this kind with these numbers over these places
abbrev pub node_over : RowKind → List ℕ → List ℕ → ProofNode
node_over k ns ps = record { head = kind_number k; numbers = node_numbers k ns; parts = ps }

-- the root of a tree, once its parts are in the table
abbrev pub root : Tree → AllPlaced → Placed
root t a = put (node_over (kind_of t) (root_numbers t) a.places) a.nodes

-- a further place at the end
abbrev pub with_last : AllPlaced → (List ProofNode → Placed) → AllPlaced
with_last a f = record { nodes = (f a.nodes).nodes; places = a.places ++ (f a.nodes).place ∷ [] }

-- a place before those of what follows
abbrev pub with_first : Placed → (List ProofNode → AllPlaced) → AllPlaced
with_first p f = record { nodes = (f p.nodes).nodes; places = p.place ∷ (f p.nodes).places }

-- the table with the nodes of a tree, each part before its node, and its place
abbrev mutual
  pub enter : Tree → List ProofNode → Placed
  enter (bound i) ns = root (bound i) (record { nodes = ns; places = [] })
  enter (app f ps) ns = root (app f ps) (enter_parts ps ns)
  enter (node h ms ps) ns = root (node h ms ps) (enter_parts ps ns)
  enter (bind b ps e) ns = root (bind b ps e) (with_last (enter_parts ps ns) (enter e))

  pub enter_parts : Parts → List ProofNode → AllPlaced
  enter_parts end ns = record { nodes = ns; places = [] }
  enter_parts (part e ps) ns = with_first (enter e ns) (enter_parts ps)

-- the table with the nodes of these trees, one after another, and their places
abbrev pub enter_all : List Tree → List ProofNode → AllPlaced
enter_all [] ns = record { nodes = ns; places = [] }
enter_all (t ∷ ts) ns = with_first (enter t ns) (enter_all ts)

-- the table of these trees, and their places
abbrev pub table_of : List Tree → AllPlaced
table_of ts = enter_all ts []

-- the facts and the goal of an obligation, behind its facts
abbrev pub with_goal : AllPlaced → Tree → Obligation
with_goal a t = record { nodes = (enter t a.nodes).nodes; facts = a.places; goal = (enter t a.nodes).place }

-- the obligation over the table of its facts and then its goal
unfoldable pub obligation_of : Canon → Obligation
obligation_of c = with_goal (table_of c.facts) c.goal

-- the list of a canonical form
unfoldable pub canon_list : Canon → List ℕ
canon_list c = written_obligation (obligation_of c)
