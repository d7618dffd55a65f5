-- An expression with something else for some of its leaves.
use Rattle.std.specs.Prelude.{ℕ, zero, suc, ◌-◌, cond, nat_lt, Option, Some, None}
use Rattle.core_expr.specs.declared.head.Sym.{Sym}
use Rattle.core_expr.specs.Tree.{Tree, Parts, size}
use Rattle.core_expr.specs.Tree.Tree.{bound, app, node, bind}
use Rattle.core_expr.specs.Tree.Parts.{end, part}
use Rattle.core_expr.specs.Heads.{parts_of}
use Rattle.core_expr.specs.Put.{shift, argument}
use Rattle.core_expr.specs.Terms.{same_sym}
use Rattle.expr_parts.specs.declared.change.Change.{Change}
use Rattle.expr_parts.specs.declared.change.Change.TheVariants.{Bind, Fill}

abbrev pub otherwise : Option Tree → Tree → Tree
otherwise None t = t
otherwise (Some u) t = u

-- the variable of a binder round the whole, for the symbol where it has no parts, under d binders
abbrev pub bound_for : Sym → Sym → ℕ → ℕ → Option Tree
bound_for c f zero d = cond (same_sym c f) (Some (bound d)) None
bound_for c f (suc n) d = None

-- the argument for a variable that none of d binders binds, the last for 0
abbrev pub filled_for : Parts → ℕ → ℕ → Option Tree
filled_for ts i d = cond (nat_lt i d) None (Some (shift 0 d (argument ts (i - d))))

-- what stands for a leaf under d binders
abbrev pub changed : Change → ℕ → Tree → Option Tree
changed (Bind c) d (app f ps) = bound_for c f (size ps) d
changed (Fill ts) d (bound i) = filled_for (parts_of ts.now) i d
changed c d t = None

module _ (c : Change) where
  abbrev mutual
    pub rebuilt : ℕ → Tree → Tree
    rebuilt d (bound i) = otherwise (changed c d (bound i)) (bound i)
    rebuilt d (app f ps) = otherwise (changed c d (app f ps)) (app f (all_rebuilt d ps))
    rebuilt d (node h ns ps) = node h ns (all_rebuilt d ps)
    rebuilt d (bind b ps e) = bind b (all_rebuilt d ps) (rebuilt (suc d) e)

    pub all_rebuilt : ℕ → Parts → Parts
    all_rebuilt d end = end
    all_rebuilt d (part e ps) = part (rebuilt d e) (all_rebuilt d ps)
