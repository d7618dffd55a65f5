use Rattle.std.proofs.Common.{◌≡◌, ◌∷◌, ◌++◌, [], map, ap, ◌∙◌}
use Rattle.std.proofs.lemmas.List.{map-append}
use Rattle.entry_positions.specs.Places.{put}
use Rattle.entry_positions.proofs.positions.Positions.put_off.Goals as goal

pub returns-clause-ok : goal.returns-clause-ok
returns-clause-ok c =
    let vs = c.self.inside.saved.items in
    let ns = c.self.inside.current.items in
    let k : c.in_ok-copy.copy.items ≡ ns = c.in_ok-copy.ensures.items ∙ c.deref.ensures.value in
    let e : map (λ v. v.items) c.push.new.self.items ≡ map (λ v. v.items) vs ++ ns ∷ [] =
    ap (map (λ v. v.items)) c.in_ok-push.ensures.items ∙ map-append (λ v. v.items) vs (c.in_ok-copy.copy ∷ []) ∙ ap (λ x. map (λ v. v.items) vs ++ x ∷ []) k in
    (λ i. record { current = ns; saved = e i }) ∙ ap put c.self.view_is
