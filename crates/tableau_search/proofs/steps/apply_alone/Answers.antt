use Rattle.std.proofs.Common.{map, ap, ◌∙◌}
use Rattle.branch_state.specs.Parts.{shown}
use Rattle.tableau_search.specs.Boards.{added_by}
use Rattle.tableau_search.proofs.steps.apply_alone.Goals as goal

pub returns-clause-turns : goal.returns-clause-turns
returns-clause-turns c =
    let es = (shown c.args.parts.now).now in
    (c.in_ok-noted.noted, c.in_ok-noted.ensures ∙ ap (map (added_by es)) c.deref-2.ensures.value, c.in_ok-push.ensures.items)
