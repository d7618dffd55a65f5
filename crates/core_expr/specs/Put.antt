-- Putting expressions for loose variables and for symbols.
use Rattle.std.specs.Prelude.{ℕ, suc, ◌+◌, ◌-◌, ◌<◌, cond, nat_lt, nat_eq, Option, Some, None}
use Rattle.core_expr.specs.declared.head.Sym.{Sym}
use Rattle.core_expr.specs.Tree.{Tree, Parts, size, true_}
use Rattle.core_expr.specs.Tree.Tree.{bound, app, node, bind}
use Rattle.core_expr.specs.Tree.Parts.{end, part}

-- each loose variable from c on goes up by k
abbrev mutual
  pub shift : ℕ → ℕ → Tree → Tree
  shift c k (bound i) = bound (cond (nat_lt i c) i (i + k))
  shift c k (app f ps) = app f (shifts c k ps)
  shift c k (node h ns ps) = node h ns (shifts c k ps)
  shift c k (bind b ps e) = bind b (shifts c k ps) (shift (suc c) k e)

  pub shifts : ℕ → ℕ → Parts → Parts
  shifts c k end = end
  shifts c k (part e ps) = part (shift c k e) (shifts c k ps)

-- the argument for the variable j: the last is for 0; there is none past the first
abbrev pub argument : Parts → ℕ → Tree
argument end j = true_
argument (part e ps) j = cond (nat_eq j (size ps)) e (argument ps j)

-- the arguments for the loose variables from d on
abbrev mutual
  pub put : ℕ → Parts → Tree → Tree
  put d ts (bound i) = cond (nat_lt i d) (bound i) (shift 0 d (argument ts (i - d)))
  put d ts (app f ps) = app f (puts d ts ps)
  put d ts (node h ns ps) = node h ns (puts d ts ps)
  put d ts (bind b ps e) = bind b (puts d ts ps) (put (suc d) ts e)

  pub puts : ℕ → Parts → Parts → Parts
  puts d ts end = end
  puts d ts (part e ps) = part (put d ts e) (puts d ts ps)

-- p[t]
abbrev pub inst : Tree → Tree → Tree
inst p t = put 0 (part t end) p

-- what a map from symbols does
abbrev pub apply_body : Option Tree → Sym → Parts → Tree
apply_body None f ps = app f ps
apply_body (Some b) f ps = put 0 ps b

abbrev mutual
  pub sub : (Sym → Option Tree) → Tree → Tree
  sub s (bound i) = bound i
  sub s (app f ps) = apply_body (s f) f (subs s ps)
  sub s (node h ns ps) = node h ns (subs s ps)
  sub s (bind b ps e) = bind b (subs s ps) (sub s e)

  pub subs : (Sym → Option Tree) → Parts → Parts
  subs s end = end
  subs s (part e ps) = part (sub s e) (subs s ps)

abbrev mutual
  pub IsScoped : ℕ → Tree → Type 0
  IsScoped n (bound i) = i < n
  IsScoped n (app f ps) = AreScoped n ps
  IsScoped n (node h ns ps) = AreScoped n ps
  IsScoped n (bind b ps e) = AreScoped n ps × IsScoped (suc n) e

  pub AreScoped : ℕ → Parts → Type 0
  AreScoped n end = Unit {0}
  AreScoped n (part e ps) = IsScoped n e × AreScoped n ps
