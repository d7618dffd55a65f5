use Rattle.std.proofs.Common.{◌≡◌, Bool, true, false, refl, sym, IsTrue}
use Rattle.core_expr.specs.Put.{IsScoped}
use Rattle.core_expr.specs.Tree.{Tree}
use Rattle.core_expr.specs.Terms.{is_scoped}
use Rattle.core_expr.specs.Equal.{scoped-true, true-scoped}
use Rattle.leaf_prover.proofs.form.is_closed.Goals as goal

tested : (e : Tree) (b : Bool) → (IsTrue b → IsScoped 0 e) → (IsScoped 0 e → IsTrue b) → b ≡ is_scoped 0 e
tested e true f g = sym (true-scoped 0 e (f refl))
tested e false f g = by_test (is_scoped 0 e) refl
  where
    by_test : (b : Bool) → is_scoped 0 e ≡ b → false ≡ b
    by_test false h = refl
    by_test true h = g (scoped-true 0 e h)

pub returns : goal.returns
returns c = tested c.args.e.now c.is_closed.result c.is_closed.ensures.0 c.is_closed.ensures.1
