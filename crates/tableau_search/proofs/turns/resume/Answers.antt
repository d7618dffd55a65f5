use Rattle.std.proofs.Common.{◌++◌, ◌∷◌, [], inr, ap, ◌∙◌}
use Rattle.tableau_search.proofs.turns.resume.Goals as goal

pub returns-in_ok-push-in-Some : goal.returns-in_ok-push-in-Some
returns-in_ok-push-in-Some c =
    let ts = c.pop.new.self.items in
    inr (ts, c.in-Some.turn, c.in-Some.ensures.items, c.in_ok-push-in-Some.ensures.items ∙ ap (λ t. ts ++ t ∷ []) c.with_next.ensures)
