-- Forms are what the checker takes.
use Rattle.std.specs.Prelude.{◌≡◌, true, List, [], ◌∷◌}
use Rattle.std.proofs.lemmas.Bool.{and_parts}
use Rattle.core_expr.specs.declared.canon.Canon.{Canon}
use Rattle.core_expr.specs.Tree.{Tree}
use Rattle.core_expr.specs.Heads.{is_canonical}
use Rattle.core_expr.specs.Put.{IsScoped}
use Rattle.core_expr.specs.Terms.{is_scoped}
use Rattle.core_expr.specs.Equal.{scoped-true}
use Rattle.seq_calculus.specs.Calculus.{AllClosed}
use Rattle.proof_checker.specs.Runs.{AreCanonical}
use Rattle.leaf_prover.specs.Forms.{is_form, is_form_part, are_form_parts}

canonical : (es : List Tree) → are_form_parts es ≡ true → AreCanonical es
canonical [] h = tt
canonical (e ∷ es) h =
    let p = and_parts (is_form_part e) (are_form_parts es) h in
    ((and_parts (is_canonical e) (is_scoped 0 e) p.0).0, canonical es p.1)

closed : (e : Tree) → is_form_part e ≡ true → IsScoped 0 e
closed e h = scoped-true 0 e (and_parts (is_canonical e) (is_scoped 0 e) h).1

all-closed : (es : List Tree) → are_form_parts es ≡ true → AllClosed es
all-closed [] h = tt
all-closed (e ∷ es) h = let p = and_parts (is_form_part e) (are_form_parts es) h in (closed e p.0, all-closed es p.1)

pub facts_canonical : (c : Canon) → is_form c ≡ true → AreCanonical c.facts
facts_canonical c h = canonical c.facts (and_parts (are_form_parts c.facts) (is_form_part c.goal) h).0

pub facts_closed : (c : Canon) → is_form c ≡ true → AllClosed c.facts
facts_closed c h = all-closed c.facts (and_parts (are_form_parts c.facts) (is_form_part c.goal) h).0

pub goal_closed : (c : Canon) → is_form c ≡ true → IsScoped 0 c.goal
goal_closed c h = closed c.goal (and_parts (are_form_parts c.facts) (is_form_part c.goal) h).1
