-- Closed instances.
use Rattle.std.specs.Prelude.{◌≡◌, ℕ, Bool, true, false, Option, Some, None, List}
use Rattle.std.proofs.Common.{refl, ap, ◌∙◌, subst}
use Rattle.core_expr.specs.Tree.{Tree}
use Rattle.core_expr.specs.Put.{IsScoped}
use Rattle.core_expr.specs.Terms.{is_scoped}
use Rattle.core_expr.proofs.Equal.{true-scoped}
use Rattle.seq_calculus.specs.Schemas.{instance_of, if_closed, closed_instance}
use Rattle.seq_calculus.specs.Calculus.{schema_premise, Proofs, Correct, AreCorrect}
use Rattle.seq_calculus.specs.Calculus.Rule.{Schema}
use Rattle.seq_calculus.specs.Calculus.Proof.{step}
use Rattle.seq_calculus.specs.Calculus.Proofs.{no_more, more}

if_closed-true : (i : Tree) (b : Bool) → b ≡ true → elim b [ true ↦ Some i | false ↦ None ] ≡ Some i
if_closed-true i true h = refl
if_closed-true i false h = cc

-- a formula that is closed is kept
pub if_closed-some : (o : Option Tree) (i : Tree) → o ≡ Some i → IsScoped 0 i → if_closed o ≡ Some i
if_closed-some o i e h = ap if_closed e ∙ if_closed-true i (is_scoped 0 i) (true-scoped 0 i h)

-- what a step of a schema brings in is closed
first_closed : (ps : Proofs) (i : Tree) (g d : List Tree) → AreCorrect ps (schema_premise (Some i) g d) → IsScoped 0 i
first_closed no_more i g d h = absurd h
first_closed (more (step r qs) ps) i g d h = h.0.0.0

pub schema_closed : (k z : ℕ) (es g d : List Tree) (ps : Proofs) → Correct (step (Schema k z es) ps) g d → (i : Tree) × (closed_instance k z es ≡ Some i)
schema_closed k z es g d ps h =
    let o : (i : Tree) × (instance_of k z es ≡ Some i) = h.2 in
    (o.0, if_closed-some (instance_of k z es) o.0 o.1 (first_closed ps o.0 g d (subst (λ y. AreCorrect ps (schema_premise y g d)) o.1 h.3)))
