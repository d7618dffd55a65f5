-- The most general unifier of two terms, for a given list of metavariables.
use Rattle.std.specs.Prelude.{ℕ, zero, suc, Bool, true, false, nat_eq, Option, Some, None, List, [], ◌∷◌, ◌++◌, length}
use Rattle.core_expr.specs.declared.head.Sym.{Sym}
use Rattle.core_expr.specs.Tree.{Tree, Parts}
use Rattle.core_expr.specs.Tree.Tree.{bound, app, node, bind}
use Rattle.core_expr.specs.Tree.Parts.{end, part}
use Rattle.core_expr.specs.Terms.{head_code, binder_code, lists_equal, same_sym, same, is_scoped}
use Rattle.unifier_definition.specs.Metas.{without, meta_of, has_meta, put}

-- Where two terms first differ in prefix order: nowhere; at two parts that no substitution makes equal by themselves; or at a metavariable, which is to be bound to the other side's part.
pub data Difference : Type 0 where
  Same : Difference
  Clash : Difference
  Bind : Sym → Tree → Difference

-- the term against the metavariable f that it is to be equal to: nothing is to do for f itself
abbrev pub against : Sym → Tree → Difference
against f t = elim (same (app f end) t) [ true ↦ Same | false ↦ Bind f t ]

-- two parts at one place, with the metavariable that each is: one on the left is bound to the right part; else one on the right is bound to the left part; else they differ as given
abbrev pub met_by : Option Sym → Option Sym → Tree → Tree → Difference → Difference
met_by (Some f) y s t d = against f t
met_by None (Some g) s t d = Bind g s
met_by None None s t d = d

-- two parts at one place
abbrev pub met : List Sym → Tree → Tree → Difference → Difference
met ms s t d = met_by (meta_of ms s) (meta_of ms t) s t d

-- the first of two differences
abbrev pub then : Difference → Difference → Difference
then d e = elim d [ Same ↦ e | Clash ↦ Clash | Bind m u ↦ Bind m u ]

abbrev mutual
  -- the first difference of two terms: heads and numbers, then the parts from the left, a body last
  pub difference : List Sym → Tree → Tree → Difference
  difference ms (bound i) (bound j) = elim (nat_eq i j) [ true ↦ Same | false ↦ Clash ]
  difference ms (app f ps) (app g qs) =
      met ms (app f ps) (app g qs) (elim (same_sym f g) [ true ↦ differences ms ps qs | false ↦ Clash ])
  difference ms (node h ns ps) (node k ls qs) =
      elim (nat_eq (head_code h) (head_code k)) [ true ↦ elim (lists_equal ns ls) [ true ↦ differences ms ps qs | false ↦ Clash ] | false ↦ Clash ]
  difference ms (bind h ps e) (bind k qs d) =
      elim (nat_eq (binder_code h) (binder_code k)) [ true ↦ then (differences ms ps qs) (difference ms e d) | false ↦ Clash ]
  difference ms s t = met ms s t Clash

  -- the first difference of two lists of parts
  pub differences : List Sym → Parts → Parts → Difference
  differences ms end end = Same
  differences ms end (part t qs) = Clash
  differences ms (part s ps) end = Clash
  differences ms (part s ps) (part t qs) = then (difference ms s t) (differences ms ps qs)

-- A metavariable with its term.
pub record Binding : Type 0 where
  pub name : Sym
  pub term : Tree

-- the bindings with u for the metavariable m in each term
abbrev pub put_into : Sym → Tree → List Binding → List Binding
put_into m u [] = []
put_into m u (b ∷ bs) = record { name = b.name; term = put m u b.term } ∷ put_into m u bs

-- the bindings with one more, which is put into the older terms
abbrev pub extended : Sym → Tree → List Binding → List Binding
extended m u bs = put_into m u bs ++ record { name = m; term = u } ∷ []

-- the term may be bound to the metavariable: it has no loose variable, and the metavariable does not occur in it
abbrev pub may_bind : Sym → Tree → Bool
may_bind m u = elim (is_scoped 0 u) [ true ↦ elim (has_meta (m ∷ []) u) [ true ↦ false | false ↦ true ] | false ↦ false ]

-- The bindings that make s and t equal, added to bs; js are the metavariables that are not bound yet. The first difference is bound and put in everywhere, and the comparison begins again. The first number is room for the rounds.
abbrev pub unify : ℕ → List Sym → List Binding → Tree → Tree → Option (List Binding)
unify zero js bs s t = elim (difference js s t) [ Same ↦ Some bs | Clash ↦ None | Bind m u ↦ None ]
unify (suc n) js bs s t =
    elim (difference js s t) [
      | Same ↦ Some bs
      | Clash ↦ None
      | Bind m u ↦ elim (may_bind m u) [ true ↦ unify n (without m js) (extended m u bs) (put m u s) (put m u t) | false ↦ None ]
    ]

-- The most general unifier of s and t for the metavariables ms. Each round binds one of them, so their number is room enough.
abbrev pub mgu : List Sym → Tree → Tree → Option (List Binding)
mgu ms s t = unify (length ms) ms [] s t

-- the term of the metavariable f
abbrev pub bound_to : Sym → List Binding → Option Tree
bound_to f [] = None
bound_to f (b ∷ bs) = elim (same_sym b.name f) [ true ↦ Some b.term | false ↦ bound_to f bs ]

-- the bindings as a substitution; what they do not bind stands for itself
abbrev pub answers : List Binding → Sym → Tree
answers bs f = elim (bound_to f bs) [ None ↦ app f end | Some t ↦ t ]
