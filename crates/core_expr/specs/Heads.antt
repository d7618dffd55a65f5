-- The table of heads: the number of each head, which numbers and parts a node may have, and the node over given parts.
use Rattle.std.specs.Prelude.{ℕ, ◌+◌, ◌<◌, Bool, true, false, IsTrue, ◌&&◌, nat_lt, nat_eq, Option, Some, None, List, [], ◌∷◌, ◌++◌, length}
use Rattle.std.proofs.Common.{get_or}
use Rattle.core_expr.specs.declared.head.Sym.{Sym}
use Rattle.core_expr.specs.declared.head.SymKind.{SymKind}
use Rattle.core_expr.specs.declared.head.SymKind.TheVariants.{Constant, State, Primed, Defined, DefinedPrimed, Canon}
use Rattle.core_expr.specs.declared.head.Head.{Head}
use Rattle.core_expr.specs.declared.head.Binder.{Binder}
use Rattle.core_expr.specs.declared.head.Head.TheVariants.{True, False, Num, Str, Boolean, Not, And, Or, Imp, Iff, Eq, In, Subseteq, Enum, Cup, Cap, Diff, Power, Union, FunSet, Dom, Apply, Except, Tuple, If, Temporal}
use Rattle.core_expr.specs.declared.head.Binder.TheVariants.{All, Ex, Filter, Image, Fun, Choose}
use Rattle.core_expr.specs.declared.row.RowKind.{RowKind}
use Rattle.core_expr.specs.declared.row.RowKind.TheVariants.{Bound, Symbol, Plain, Binding}
use Rattle.core_expr.specs.Tree.{Tree, Parts, size, true_}
use Rattle.core_expr.specs.Tree.Tree.{bound, app, node, bind}
use Rattle.core_expr.specs.Tree.Parts.{end, part}
use Rattle.core_expr.specs.Terms.{head_code, binder_code}

-- the kinds of nodes by their head numbers; at 6, where the symbol decides, a filler
unfoldable pub kind_table : List RowKind
kind_table =
    Plain True ∷ Plain False ∷ Plain Num ∷ Plain Str ∷ Plain Boolean ∷ Bound ∷ Plain Temporal ∷ Plain Not ∷ Plain And ∷ Plain Or ∷ Plain Imp ∷ Plain Iff ∷ Binding All ∷ Binding Ex ∷ Plain Eq ∷ Plain In ∷ Plain Subseteq ∷ Plain Enum ∷ Plain Cup ∷ Plain Cap ∷ Plain Diff ∷ Plain Power ∷ Plain Union ∷ Binding Filter ∷ Binding Image ∷ Binding Fun ∷ Plain FunSet ∷ Plain Dom ∷ Plain Apply ∷ Plain Except ∷ Plain Tuple ∷ Plain If ∷ Binding Choose ∷ Plain Temporal ∷ []

-- what kind of node has this head number
unfoldable pub kind_at : ℕ → RowKind
kind_at h = get_or kind_table h (Plain Temporal)

-- the same, where a symbol decides if there is one
abbrev pub kind_for : ℕ → Option Sym → RowKind
kind_for h None = kind_at h
kind_for h (Some f) = Symbol f

-- the head number of a kind of node
abbrev pub kind_number : RowKind → ℕ
kind_number Bound = 5
kind_number (Symbol f) = 6
kind_number (Plain h) = head_code h
kind_number (Binding b) = binder_code b

-- the symbol of a kind of node
abbrev pub kind_symbol : RowKind → Option Sym
kind_symbol Bound = None
kind_symbol (Symbol f) = Some f
kind_symbol (Plain h) = None
kind_symbol (Binding b) = None

-- how many parts a head has that binds nothing; an Enum and a Tuple have any number
abbrev pub head_arity : Head → ℕ
head_arity Not = 1
head_arity And = 2
head_arity Or = 2
head_arity Imp = 2
head_arity Iff = 2
head_arity Eq = 2
head_arity In = 2
head_arity Subseteq = 2
head_arity Cup = 2
head_arity Cap = 2
head_arity Diff = 2
head_arity Power = 1
head_arity Union = 1
head_arity FunSet = 2
head_arity Dom = 1
head_arity Apply = 2
head_arity Except = 3
head_arity If = 3
head_arity _ = 0

-- how many parts a binder has, its body among them
abbrev pub binder_arity : Binder → ℕ
binder_arity All = 1
binder_arity Ex = 1
binder_arity Filter = 2
binder_arity Image = 2
binder_arity Fun = 2
binder_arity Choose = 1

abbrev pub is_empty : List ℕ → Bool
is_empty [] = true
is_empty (n ∷ ns) = false

-- just this number
abbrev pub is_only : ℕ → List ℕ → Bool
is_only k [] = false
is_only k (n ∷ ns) = nat_eq n k && is_empty ns

abbrev pub are_bytes : List ℕ → Bool
are_bytes [] = true
are_bytes (b ∷ bs) = nat_lt b 256 && are_bytes bs

-- a length, and then as many bytes
abbrev pub is_text : List ℕ → Bool
is_text [] = false
is_text (n ∷ bs) = nat_eq n (length bs) && are_bytes bs

-- a head that binds nothing with these numbers and so many parts
abbrev pub plain_fits : Head → List ℕ → ℕ → Bool
plain_fits Num ns k = nat_eq (length ns) 2 && nat_eq k 0
plain_fits Str ns k = is_text ns && nat_eq k 0
plain_fits Enum ns k = is_only k ns
plain_fits Tuple ns k = is_only k ns
plain_fits h ns k = is_empty ns && nat_eq k (head_arity h)

-- the numbers of a node with this head and k parts that has no others: the count of an Enum or a Tuple
abbrev pub counts : Head → ℕ → List ℕ
counts Enum k = k ∷ []
counts Tuple k = k ∷ []
counts _ k = []

-- a head may have k parts and no numbers but their count
abbrev pub takes : Head → ℕ → Bool
takes Num k = false
takes Str k = false
takes Enum k = true
takes Tuple k = true
takes h k = nat_eq k (head_arity h)

-- a node of this kind may have these numbers and so many parts
abbrev pub kind_fits : RowKind → List ℕ → ℕ → Bool
kind_fits Bound ns k = nat_eq (length ns) 1 && nat_eq k 0
kind_fits (Symbol f) ns k = is_empty ns && nat_eq k f.arity
kind_fits (Plain h) ns k = plain_fits h ns k
kind_fits (Binding b) ns k = is_empty ns && nat_eq k (binder_arity b)

-- a head number of the table; the symbol is given exactly for 6
abbrev pub is_head : ℕ → Option Sym → Bool
is_head h None = nat_lt h 34 && elim (nat_eq h 6) [ true ↦ false | false ↦ true ]
is_head h (Some f) = nat_eq h 6

-- the head number, the symbol, the numbers and the number of parts are those of a node
abbrev pub fits : ℕ → Option Sym → List ℕ → ℕ → Bool
fits h f ns k = is_head h f && kind_fits (kind_for h f) ns k

-- the first of the numbers
abbrev pub first : List ℕ → ℕ
first [] = 0
first (n ∷ ns) = n

-- the numbers but the first
abbrev pub after_first : List ℕ → List ℕ
after_first [] = []
after_first (n ∷ ns) = ns

-- the numbers that the tree keeps: a count and a length are those of what follows
abbrev pub kept_numbers : Head → List ℕ → List ℕ
kept_numbers Enum ns = after_first ns
kept_numbers Tuple ns = after_first ns
kept_numbers Str ns = after_first ns
kept_numbers _ ns = ns

-- the numbers of the table for a node with these kept numbers and so many parts
abbrev pub table_numbers : Head → List ℕ → ℕ → List ℕ
table_numbers Enum ns k = k ∷ ns
table_numbers Tuple ns k = k ∷ ns
table_numbers Str ns k = length ns ∷ ns
table_numbers _ ns k = ns

abbrev pub parts_of : List Tree → Parts
parts_of [] = end
parts_of (t ∷ ts) = part t (parts_of ts)

abbrev pub list_of : Parts → List Tree
list_of end = []
list_of (part e ps) = e ∷ list_of ps

-- the parts of a node, a binder's body last
abbrev pub subtrees : Tree → List Tree
subtrees (bound i) = []
subtrees (app f ps) = list_of ps
subtrees (node h ns ps) = list_of ps
subtrees (bind b ps e) = list_of ps ++ e ∷ []

-- all but the last
abbrev pub front : List Tree → List Tree
front [] = []
front (t ∷ []) = []
front (t ∷ u ∷ ts) = t ∷ front (u ∷ ts)

-- the last
abbrev pub back : List Tree → Tree
back [] = true_
back (t ∷ []) = t
back (t ∷ u ∷ ts) = back (u ∷ ts)

-- the node of this kind with these numbers and parts; a binder's body is its last part
abbrev pub make_kind : RowKind → List ℕ → List Tree → Tree
make_kind Bound ns ts = bound (first ns)
make_kind (Symbol f) ns ts = app f (parts_of ts)
make_kind (Plain h) ns ts = node h (kept_numbers h ns) (parts_of ts)
make_kind (Binding b) ns ts = bind b (parts_of (front ts)) (back ts)

-- the node with this head number, symbol, numbers and parts
abbrev pub make : ℕ → Option Sym → List ℕ → List Tree → Tree
make h f ns ts = make_kind (kind_for h f) ns ts

-- every node has the numbers and the number of parts that the table asks
abbrev mutual
  pub is_well_formed : Tree → Bool
  is_well_formed (bound i) = true
  is_well_formed (app f ps) = nat_eq (size ps) f.arity && are_well_formed ps
  is_well_formed (node h ns ps) = plain_fits h (table_numbers h ns (size ps)) (size ps) && are_well_formed ps
  is_well_formed (bind b ps e) = nat_eq (size ps + 1) (binder_arity b) && (are_well_formed ps && is_well_formed e)

  pub are_well_formed : Parts → Bool
  are_well_formed end = true
  are_well_formed (part e ps) = is_well_formed e && are_well_formed ps

-- every node has the numbers and the number of parts that the table asks
abbrev pub IsWellFormed : Tree → Type 0
IsWellFormed t = IsTrue (is_well_formed t)

-- a symbol of a canonical form
abbrev pub is_canon : SymKind → Bool
is_canon Canon = true
is_canon Constant = false
is_canon State = false
is_canon Primed = false
is_canon Defined = false
is_canon DefinedPrimed = false

-- any head but the temporal mark
abbrev pub is_lasting : Head → Bool
is_lasting Temporal = false
is_lasting _ = true

-- a node that a canonical expression may have
abbrev pub is_canonical_kind : RowKind → Bool
is_canonical_kind Bound = true
is_canonical_kind (Symbol f) = is_canon f.kind
is_canonical_kind (Plain h) = is_lasting h
is_canonical_kind (Binding b) = true

-- the symbols are those of a canonical form, and there is no temporal mark
abbrev mutual
  pub is_canonical : Tree → Bool
  is_canonical (bound i) = true
  is_canonical (app f ps) = is_canon f.kind && are_canonical ps
  is_canonical (node h ns ps) = is_lasting h && are_canonical ps
  is_canonical (bind b ps e) = are_canonical ps && is_canonical e

  pub are_canonical : Parts → Bool
  are_canonical end = true
  are_canonical (part e ps) = is_canonical e && are_canonical ps

-- the symbols are those of a canonical form, and there is no temporal mark
abbrev pub IsCanonical : Tree → Type 0
IsCanonical t = IsTrue (is_canonical t)

-- a binder has a part, its body
abbrev pub HasBody : RowKind → ℕ → Type 0
HasBody (Binding b) k = 0 < k
HasBody _ k = Unit {0}
