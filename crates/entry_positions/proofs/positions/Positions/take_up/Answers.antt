use Rattle.std.proofs.Common.{◌≡◌, ◌<◌, [], length, take, get_or, map, ap, sym, ◌∙◌, arith}
use Rattle.std.proofs.lemmas.List.{take_more, same_from_push, take-map, get_or-map, length-map}
use Rattle.entry_positions.specs.Places.{Places, place_at}
use Rattle.entry_positions.proofs.positions.Positions.take_up.Goals as goal

pub returns-in-Some : goal.returns-in-Some
returns-in-Some c =
    let vs = c.self.inside.saved.items in
    let d = c.in-Some.positions in
    let n = c.args.at in
    let w = ap (λ (p : Places). length p.saved) c.self.view_is in
    let l : n < length vs = omega (arith, c.requires, w, length-map vs (λ v. v.items)) in
    let p = same_from_push c.pop.new.self.items (take n vs) d (get_or vs n d) (sym c.in-Some.ensures.items ∙ c.truncate.ensures.items ∙ take_more vs n d l) in
    let a : d.items ≡ place_at (map (λ v. v.items) vs) n = ap (λ v. v.items) p.1 ∙ sym (get_or-map (λ v. v.items) vs n d [] l) in
    let b : map (λ v. v.items) c.pop.new.self.items ≡ take n (map (λ v. v.items) vs) = ap (map (λ v. v.items)) p.0 ∙ sym (take-map (λ v. v.items) n vs) in
    (λ i. record { current = a i; saved = b i }) ∙ ap (λ (q : Places). record { current = place_at q.saved n; saved = take n q.saved }) c.self.view_is
