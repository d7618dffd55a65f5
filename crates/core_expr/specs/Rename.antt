-- Substitution of expressions for symbols: the map that a list of pairs gives, and what it does to the nodes of an expression.
use Rattle.std.specs.Prelude.{ℕ, zero, suc, ◌+◌, ◌-◌, Bool, true, false, ◌&&◌, cond, nat_lt, nat_le, nat_eq, Option, Some, None, List, [], ◌∷◌, ◌++◌, length, take, drop}
use Rattle.std.proofs.Common.{get_or}
use Rattle.core_expr.specs.declared.head.Sym.{Sym}
use Rattle.core_expr.specs.declared.head.Head.TheVariants.{True}
use Rattle.core_expr.specs.declared.row.Row.{Row}
use Rattle.core_expr.specs.declared.row.RowKind.{RowKind}
use Rattle.core_expr.specs.declared.row.RowKind.TheVariants.{Bound, Symbol, Plain}
use Rattle.core_expr.specs.Tree.{Tree}
use Rattle.core_expr.specs.Terms.{same_sym}
use Rattle.core_expr.specs.Heads.{first, is_empty, is_only, is_well_formed}
use Rattle.core_expr.specs.Flat.{row, rows_of}
use Rattle.core_expr.specs.Rows.{raised_row, is_loose_row}

-- the expression of the first pair with this symbol: kind, number and arity are equal
abbrev pub named : List (Sym × Tree) → Sym → Option Tree
named [] f = None
named (p ∷ by) f = elim (same_sym p.0 f) [ true ↦ Some p.1 | false ↦ named by f ]

-- every expression of the list is well formed
abbrev pub all_formed : List (Sym × Tree) → Bool
all_formed [] = true
all_formed (p ∷ by) = is_well_formed p.1 && all_formed by

-- the expression for a node of this kind: there is one for symbols only
abbrev pub body_for : (Sym → Option Tree) → RowKind → Option Tree
body_for s (Symbol f) = s f
body_for s k = None

-- in an expression whose root stands under d binders, the node is a variable that no binder of the expression binds
abbrev pub is_free_row : ℕ → RowKind → Row → Bool
is_free_row d Bound r = nat_le (r.depth - d) (first r.numbers)
is_free_row d k r = false

-- the node under u more binders: a variable that is free from depth d on goes up by k
abbrev pub lifted_row : ℕ → ℕ → ℕ → Row → Row
lifted_row u k d r = cond (is_free_row d r.kind r) (row r.kind ((first r.numbers + k) ∷ []) r.parts (r.depth + u)) (raised_row u r)

-- the nodes of an expression, whose root stands under d binders, under u more, and its free variables up by k
abbrev pub lifted : ℕ → ℕ → ℕ → List Row → List Row
lifted u k d [] = []
lifted u k d (r ∷ rs) = lifted_row u k d r ∷ lifted u k d rs

-- where the last n subtrees begin; where there are none, at the end
abbrev pub begin : ℕ → List ℕ → ℕ → ℕ
begin n starts end = get_or starts (length starts - n) end

-- the nodes from one place to another
abbrev pub between : ℕ → ℕ → List Row → List Row
between from to rs = take (to - from) (drop from rs)

-- the nodes of the argument for the variable j; past the first argument, of TRUE
abbrev pub argument_rows : List Row → List ℕ → Row → ℕ → List Row
argument_rows out starts r j =
    cond (nat_lt j r.parts) (between (begin (suc j) starts (length out)) (begin j starts (length out)) out) (row (Plain True) [] 0 r.depth ∷ [])

-- a node of what is put for a symbol, with the argument for a loose variable
abbrev pub filled_row : List Row → List ℕ → Row → Row → List Row
filled_row out starts r b =
    cond (is_loose_row b.kind b) (lifted b.depth b.depth r.depth (argument_rows out starts r (first b.numbers - b.depth))) (raised_row r.depth b ∷ [])

-- the nodes of what is put for a symbol, with the arguments for the loose variables
abbrev pub filled : List Row → List ℕ → Row → List Row → List Row
filled out starts r [] = []
filled out starts r (b ∷ bs) = filled_row out starts r b ++ filled out starts r bs

-- the node is the bound variable i, under no binder
abbrev pub is_variable : ℕ → RowKind → Row → Bool
is_variable i Bound r = is_only i r.numbers && (nat_eq r.parts 0 && nat_eq r.depth 0)
is_variable i k r = false

-- the symbol of a node with n parts under no binder
abbrev pub root_symbol : ℕ → RowKind → Row → Option Sym
root_symbol n (Symbol g) r = cond (is_empty r.numbers && (nat_eq r.parts n && nat_eq r.depth 0)) (Some g) None
root_symbol n k r = None

-- the symbol of nodes that are the variables i - 1 to 0 in order and then that symbol applied to n parts
abbrev pub applied_symbol : ℕ → ℕ → List Row → Option Sym
applied_symbol n zero [] = None
applied_symbol n zero (b ∷ []) = root_symbol n b.kind b
applied_symbol n zero (b ∷ c ∷ bs) = None
applied_symbol n (suc i) [] = None
applied_symbol n (suc i) (b ∷ bs) = elim (is_variable i b.kind b) [ true ↦ applied_symbol n i bs | false ↦ None ]

-- the nodes so far and then those of what is put for the node r, whose parts are completed
abbrev pub put_nodes : List Row → Row → List Row → List ℕ → List Row
put_nodes bs r out starts =
    elim (applied_symbol r.parts r.parts bs) [
      | Some g ↦ out ++ row (Symbol g) [] r.parts r.depth ∷ []
      | None ↦ take (begin r.parts starts (length out)) out ++ filled out starts r bs
    ]

-- the nodes so far once the node is completed: each completed subtree is what its map gives
abbrev pub next_nodes : (Sym → Option Tree) → Row → List Row → List ℕ → List Row
next_nodes s r out starts = elim (body_for s r.kind) [ None ↦ out ++ r ∷ [] | Some b ↦ put_nodes (rows_of b) r out starts ]

-- where the completed subtrees begin, once the node is completed
abbrev pub next_starts : Row → List ℕ → ℕ → List ℕ
next_starts r starts end = take (length starts - r.parts) starts ++ begin r.parts starts end ∷ []

-- the nodes once all nodes are completed
abbrev pub renamed : (Sym → Option Tree) → List Row → List Row → List ℕ → List Row
renamed s [] out starts = out
renamed s (r ∷ rs) out starts = renamed s rs (next_nodes s r out starts) (next_starts r starts (length out))
