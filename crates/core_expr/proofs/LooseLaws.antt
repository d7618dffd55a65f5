-- A scope is a bound on the loose variables.
use Rattle.std.proofs.Common.{ℕ, suc, ◌≤◌, arith}
use Rattle.core_expr.specs.Tree.{Tree, Parts}
use Rattle.core_expr.specs.Tree.Tree.{bound, app, node, bind}
use Rattle.core_expr.specs.Tree.Parts.{end, part}
use Rattle.core_expr.specs.Put.{IsScoped, AreScoped}
use Rattle.core_expr.specs.Loose.{loose, loose_all}

mutual
  pub loose-scoped : (n : ℕ) (e : Tree) → IsScoped n e → loose e ≤ n
  loose-scoped n (bound i) h = omega arith
  loose-scoped n (app f ps) h = loose_all-scoped n ps h
  loose-scoped n (node f ns ps) h = loose_all-scoped n ps h
  loose-scoped n (bind b ps e) h = let p = loose_all-scoped n ps h.0 in let q = loose-scoped (suc n) e h.1 in omega (arith, p, q)

  pub loose_all-scoped : (n : ℕ) (ps : Parts) → AreScoped n ps → loose_all ps ≤ n
  loose_all-scoped n end h = omega arith
  loose_all-scoped n (part e ps) h = let p = loose-scoped n e h.0 in let q = loose_all-scoped n ps h.1 in omega (arith, p, q)

mutual
  pub IsScoped-from_loose : (n : ℕ) (e : Tree) → loose e ≤ n → IsScoped n e
  IsScoped-from_loose n (bound i) h = omega arith
  IsScoped-from_loose n (app f ps) h = AreScoped-from_loose n ps h
  IsScoped-from_loose n (node f ns ps) h = AreScoped-from_loose n ps h
  IsScoped-from_loose n (bind b ps e) h = (AreScoped-from_loose n ps (omega arith), IsScoped-from_loose (suc n) e (omega arith))

  pub AreScoped-from_loose : (n : ℕ) (ps : Parts) → loose_all ps ≤ n → AreScoped n ps
  AreScoped-from_loose n end h = tt
  AreScoped-from_loose n (part e ps) h = (IsScoped-from_loose n e (omega arith), AreScoped-from_loose n ps (omega arith))
