use Rattle.std.proofs.Common.{◌≡◌, ◌<◌, [], ◌∷◌, length, rules, refl}
use Rattle.std.proofs.lemmas.List.{take_rest}
use Rattle.core_expr.specs.Nodes.{node_make}
use Rattle.proof_checker.proofs.NodeLaws.{below_drop}
use Rattle.proof_checker.proofs.TupleLaws.{joined_all, no_items}
use Rattle.proof_checker.proofs.tuple.join.Goals as goal

pub returns-then-is_empty-clause-ok : goal.returns-then-is_empty-clause-ok
returns-then-is_empty-clause-ok c =
    let e : length c.args.items.now ≡ 0 = search rules in
    rw (no_items (λ a b. node_make c.args.connective [] (a ∷ b ∷ [])) (node_make c.args.none [] []) c.args.bank.now c.args.items.now e) c.in_ok-alone.ensures.ok

pub join_after-requires-clause-rest : goal.join_after-requires-clause-rest
join_after-requires-clause-rest c = rw (take_rest c.args.items.now 1) (below_drop (length c.args.bank.now) 1 c.args.items.now c.requires.items)

pub returns-clause-ok : goal.returns-clause-ok
returns-clause-ok c =
    let l : 0 < length c.args.items.now = search rules in
    joined_all (λ a b. node_make c.args.connective [] (a ∷ b ∷ [])) (node_make c.args.none [] []) c.args.bank.now c.join_after.new.bank c.args.items.now _ _ c.in_ok-joined.joined l refl (take_rest c.args.items.now 1) c.in_ok-joined.ensures.ok
