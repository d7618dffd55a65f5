-- Laws of expressions, as statements.
use Rattle.std.specs.Prelude.{◌≡◌, ◌↔◌, ℕ, ◌+◌, ◌-◌, ◌<◌, ◌≤◌, true, IsTrue, Option, List, length}
use Rattle.core_expr.specs.declared.head.Sym.{Sym}
use Rattle.core_expr.specs.Tree.{Tree, Parts, size}
use Rattle.core_expr.specs.Put.{shift, shifts, put, inst, sub, subs, IsScoped, AreScoped}
use Rattle.core_expr.specs.Terms.{same, is_scoped}
use Rattle.core_expr.specs.Heads.{fits, make, subtrees, kind_number, kind_symbol, parts_of, are_well_formed, are_canonical, IsWellFormed, IsCanonical}
use Rattle.core_expr.specs.Nodes.{node_numbers, node_fits, node_make}
use Rattle.core_expr.specs.Loose.{loose}
use Rattle.core_expr.specs.Flat.{rows_of, tree_of}
use Rattle.core_expr.specs.Places.{kind_of, root_numbers, subtree}

-- putting in, at any depth and for any arguments, and substituting for symbols commute
abbrev pub PuttingInCommutes : Type 0
PuttingInCommutes = (s : Sym → Option Tree) (d : ℕ) (ts : Parts) (e : Tree) → sub s (put d ts e) ≡ put d (subs s ts) (sub s e)

-- moving the loose variables and substituting for symbols commute
abbrev pub MovingCommutes : Type 0
MovingCommutes = (s : Sym → Option Tree) (c k : ℕ) (e : Tree) → sub s (shift c k e) ≡ shift c k (sub s e)

-- moving the loose variables up by k widens the scope by k, and changes no size
abbrev pub MovingScopes : Type 0
MovingScopes = ((n c k : ℕ) (e : Tree) → IsScoped n e → IsScoped (n + k) (shift c k e)) × ((c k : ℕ) (ps : Parts) → size (shifts c k ps) ≡ size ps)

-- moving the loose variables of a well-formed expression gives a well-formed one
abbrev pub MovingKeepsForm : Type 0
MovingKeepsForm = (c k : ℕ) (e : Tree) → IsWellFormed e → IsWellFormed (shift c k e)

-- a scope is a bound on the loose variables
abbrev pub ScopeIsLoose : Type 0
ScopeIsLoose = (n : ℕ) (e : Tree) → IsScoped n e ↔ (loose e ≤ n)

-- putting anything into a closed expression, and moving its loose variables, leave it as it is
abbrev pub ClosedStays : Type 0
ClosedStays = (t : Tree) → IsScoped 0 t → ((d : ℕ) (ts : Parts) → put d ts t ≡ t) × ((c k : ℕ) → shift c k t ≡ t)

-- substituting for symbols adds no loose variable
abbrev pub SubstitutionKeepsScopes : Type 0
SubstitutionKeepsScopes = (s : Sym → Option Tree) (n : ℕ) (t : Tree) → IsScoped n t → IsScoped n (sub s t)

-- putting in leaves only the loose variables of what is put in, and those below the depth
abbrev pub PuttingInScopes : Type 0
PuttingInScopes = (n d : ℕ) (ts : Parts) (e : Tree) → AreScoped n ts → IsScoped (n + d) (put d ts e)

-- putting a well-formed expression into another gives a well-formed one
abbrev pub PuttingInKeepsForm : Type 0
PuttingInKeepsForm = (p t : Tree) → IsWellFormed p → IsWellFormed t → IsWellFormed (inst p t)

-- the nodes of a tree give it back
abbrev pub NodesGiveBack : Type 0
NodesGiveBack = (t : Tree) → tree_of (rows_of t) ≡ t

-- the test of equality says equality
abbrev pub SameIsEqual : Type 0
SameIsEqual = (a b : Tree) → (same a b ≡ true) ↔ (a ≡ b)

-- the test of scopes says that there is no loose variable from n on
abbrev pub ScopedIsTested : Type 0
ScopedIsTested = (n : ℕ) (t : Tree) → (is_scoped n t ≡ true) ↔ IsScoped n t

-- a tree shows what it was made of
pub record Shows (h : ℕ) (f : Option Sym) (ns : List ℕ) (ts : List Tree) (t : Tree) : Type 0 where
  pub head_is : kind_number (kind_of t) ≡ h
  pub symbol_is : kind_symbol (kind_of t) ≡ f
  pub numbers_are : root_numbers t ≡ ns
  pub parts_are : subtrees t ≡ ts

-- a node made of fitting things shows them
abbrev pub MadeShows : Type 0
MadeShows = (h : ℕ) (f : Option Sym) (ns : List ℕ) (ts : List Tree) → IsTrue (fits h f ns (length ts)) → Shows h f ns ts (make h f ns ts)

-- a node made of fitting things over well-formed parts is well formed
abbrev pub MadeIsFormed : Type 0
MadeIsFormed = (h : ℕ) (f : Option Sym) (ns : List ℕ) (ts : List Tree) → IsTrue (fits h f ns (length ts)) → IsTrue (are_well_formed (parts_of ts)) → IsWellFormed (make h f ns ts)

-- a tree is the node made of what it shows
abbrev pub ShownMakes : Type 0
ShownMakes = (t : Tree) → make (kind_number (kind_of t)) (kind_symbol (kind_of t)) (root_numbers t) (subtrees t) ≡ t

-- what a well-formed tree shows fits the table
abbrev pub ShownFits : Type 0
ShownFits = (t : Tree) → IsWellFormed t → IsTrue (fits (kind_number (kind_of t)) (kind_symbol (kind_of t)) (root_numbers t) (length (subtrees t)))

-- a tree shows what it was made of as a node of a table
pub record ShowsNode (h : ℕ) (ns : List ℕ) (ts : List Tree) (t : Tree) : Type 0 where
  pub head_is : kind_number (kind_of t) ≡ h
  pub numbers_are : node_numbers (kind_of t) (root_numbers t) ≡ ns
  pub parts_are : subtrees t ≡ ts

-- a node of a table, made of what the table of heads allows, shows it
abbrev pub NodeShows : Type 0
NodeShows = (h : ℕ) (ns : List ℕ) (ts : List Tree) → IsTrue (node_fits h ns (length ts)) → ShowsNode h ns ts (node_make h ns ts)

-- a node of a table over well-formed canonical trees is one
abbrev pub NodeIsCanonical : Type 0
NodeIsCanonical =
    (h : ℕ) (ns : List ℕ) (ts : List Tree) → IsTrue (node_fits h ns (length ts)) → IsTrue (are_well_formed (parts_of ts)) → IsTrue (are_canonical (parts_of ts))
    → IsWellFormed (node_make h ns ts) × IsCanonical (node_make h ns ts)

-- the root of a well-formed canonical tree is a node of a table
abbrev pub CanonicalIsNode : Type 0
CanonicalIsNode =
    (t : Tree) → IsWellFormed t → IsCanonical t
    → (node_make (kind_number (kind_of t)) (node_numbers (kind_of t) (root_numbers t)) (subtrees t) ≡ t)
    × IsTrue (node_fits (kind_number (kind_of t)) (node_numbers (kind_of t) (root_numbers t)) (length (subtrees t)))

-- the last node is the root of the whole
abbrev pub LastIsRoot : Type 0
LastIsRoot = (t : Tree) → (0 < length (rows_of t)) × (subtree t (length (rows_of t) - 1) ≡ t)
