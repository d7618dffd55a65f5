use Rattle.std.proofs.Common.{◌∷◌, [], sym, subst}
use Rattle.search_loop.proofs.SetLaws.{falls_union}
use Rattle.branch_state.specs.Shown.{Falls}
use Rattle.tableau_search.proofs.needs.needs_of_split.Goals as goal

pub returns-clause-falls : goal.returns-clause-falls
returns-clause-falls c =
    subst Falls (sym c.in_ok-both.ensures) (falls_union (c.args.number ∷ []) c.deref.result.now tt (subst Falls (sym c.deref.ensures.value) c.in_ok-needs.ensures.falls))
