-- Metavariables: symbols that a list names, standing without arguments. Each other symbol is a constant or an operator.
use Rattle.std.specs.Prelude.{Bool, true, false, Option, Some, None, List, [], ◌∷◌}
use Rattle.core_expr.specs.declared.head.Sym.{Sym}
use Rattle.core_expr.specs.Tree.{Tree, Parts}
use Rattle.core_expr.specs.Tree.Tree.{bound, app, node, bind}
use Rattle.core_expr.specs.Tree.Parts.{end, part}
use Rattle.core_expr.specs.Terms.{same_sym}

-- the symbol is in the list
abbrev pub listed : List Sym → Sym → Bool
listed [] f = false
listed (m ∷ ms) f = elim (same_sym m f) [ true ↦ true | false ↦ listed ms f ]

-- the list without the symbol
abbrev pub without : Sym → List Sym → List Sym
without m [] = []
without m (f ∷ fs) = elim (same_sym m f) [ true ↦ without m fs | false ↦ f ∷ without m fs ]

-- the metavariable of the list that the term is
abbrev pub meta_of : List Sym → Tree → Option Sym
meta_of ms (app f end) = elim (listed ms f) [ true ↦ Some f | false ↦ None ]
meta_of ms _ = None

abbrev mutual
  -- a metavariable of the list occurs in the term
  pub has_meta : List Sym → Tree → Bool
  has_meta ms (bound i) = false
  has_meta ms (app f end) = listed ms f
  has_meta ms (app f (part e ps)) = elim (has_meta ms e) [ true ↦ true | false ↦ have_meta ms ps ]
  has_meta ms (node h ns ps) = have_meta ms ps
  has_meta ms (bind b ps e) = elim (have_meta ms ps) [ true ↦ true | false ↦ has_meta ms e ]

  -- a metavariable of the list occurs in the parts
  pub have_meta : List Sym → Parts → Bool
  have_meta ms end = false
  have_meta ms (part e ps) = elim (has_meta ms e) [ true ↦ true | false ↦ have_meta ms ps ]

abbrev mutual
  -- the substitution v on a term: the closed term v of it for each metavariable of the list
  pub assign : List Sym → (Sym → Tree) → Tree → Tree
  assign ms v (bound i) = bound i
  assign ms v (app f end) = elim (listed ms f) [ true ↦ v f | false ↦ app f end ]
  assign ms v (app f (part e ps)) = app f (part (assign ms v e) (assigns ms v ps))
  assign ms v (node h ns ps) = node h ns (assigns ms v ps)
  assign ms v (bind b ps e) = bind b (assigns ms v ps) (assign ms v e)

  -- the substitution on the parts
  pub assigns : List Sym → (Sym → Tree) → Parts → Parts
  assigns ms v end = end
  assigns ms v (part e ps) = part (assign ms v e) (assigns ms v ps)

-- the term with u for the metavariable m
abbrev pub put : Sym → Tree → Tree → Tree
put m u e = assign (m ∷ []) (λ f. u) e
