-- What changed leaves come to.
use Rattle.std.proofs.Common.{◌≡◌, ℕ, suc, ◌-◌, Bool, true, false, cond, nat_lt, refl, ap}
use Rattle.std.specs.Prelude.{Some, None, List}
use Rattle.std.specs.Borrow.{Bor}
use Rattle.core_expr.specs.Tree.{Tree, Parts}
use Rattle.core_expr.specs.Tree.Tree.{bound, app, node, bind}
use Rattle.core_expr.specs.Tree.Parts.{end, part}
use Rattle.core_expr.specs.Heads.{parts_of}
use Rattle.core_expr.specs.Put.{shift, argument, put, puts}
use Rattle.expr_parts.specs.declared.change.Change.TheVariants.{Keep, Fill}
use Rattle.expr_parts.specs.Rebuilt.{otherwise, rebuilt, all_rebuilt}

by-test : (b : Bool) (u x : Tree) → otherwise (cond b None (Some u)) x ≡ cond b x u
by-test true u x = refl
by-test false u x = refl

mutual
  pub put_is : (ts : Bor (List Tree)) (d : ℕ) (x : Tree) → rebuilt (Fill ts) d x ≡ put d (parts_of ts.now) x
  put_is ts d (bound i) = by-test (nat_lt i d) (shift 0 d (argument (parts_of ts.now) (i - d))) (bound i)
  put_is ts d (app f ps) = ap (app f) (puts_is ts d ps)
  put_is ts d (node m ns ps) = ap (node m ns) (puts_is ts d ps)
  put_is ts d (bind b ps e) = λ i. bind b (puts_is ts d ps i) (put_is ts (suc d) e i)

  puts_is : (ts : Bor (List Tree)) (d : ℕ) (ps : Parts) → all_rebuilt (Fill ts) d ps ≡ puts d (parts_of ts.now) ps
  puts_is ts d end = refl
  puts_is ts d (part x ps) = λ i. part (put_is ts d x i) (puts_is ts d ps i)

mutual
  pub kept_is : (d : ℕ) (x : Tree) → rebuilt Keep d x ≡ x
  kept_is d (bound i) = refl
  kept_is d (app f ps) = ap (app f) (all_kept d ps)
  kept_is d (node m ns ps) = ap (node m ns) (all_kept d ps)
  kept_is d (bind b ps e) = λ i. bind b (all_kept d ps i) (kept_is (suc d) e i)

  all_kept : (d : ℕ) (ps : Parts) → all_rebuilt Keep d ps ≡ ps
  all_kept d end = refl
  all_kept d (part x ps) = λ i. part (kept_is d x i) (all_kept d ps i)
