-- What a rule that looks at a formula alone adds to a closed formula is closed.
use Rattle.std.proofs.Common.{true, [], ◌∷◌, None, ap, ◌∙◌}
use Rattle.search_definition.specs.Terms.{or_else}
use Rattle.search_definition.specs.Branches.{Branch}
use Rattle.search_definition.specs.Rules.{at_entry}
use Rattle.search_definition.specs.Instances.{Fresh}
use Rattle.search_definition.proofs.Telling.{rule_tells}
use Rattle.formula_rules.specs.Laws.{AddedIsClosed}

pub added_is_closed : AddedIsClosed
added_is_closed k rule h f s c e =
    let b : Branch = record { formula = f; live = true; count = 0 } ∷ [] in
    let w : Fresh = record { spare = 0; metas = 0 } in
    (rule_tells w b k (record { entry = 0; step = s }) (c, tt) (h w b ∙ ap (λ o. or_else (at_entry 0 o) None) e)).6
