use Rattle.std.proofs.Common.{◌≡◌, ℕ, List, drop}
use Rattle.core_expr.specs.Tree.{Tree}
use Rattle.core_expr.specs.Nodes.{canon_sym}
use Rattle.unifier_definition.specs.Unify.{bound_to}
use Rattle.unify_meta.specs.Bindings.{bindings, TermsBelow}
use Rattle.unify_meta.proofs.binding.bound_to.Given as goal

abbrev pub invariant-loop-b : goal.invariant-loop-b
invariant-loop-b l =
    record {
      same : (ts : List Tree) → bound_to (canon_sym l.name 0) (bindings ts l.bound) ≡ bound_to (canon_sym l.name 0) (bindings ts (drop l.b-index l.bound));
      below : (n : ℕ) → TermsBelow n l.bound → TermsBelow n (drop l.b-index l.bound);
    }
