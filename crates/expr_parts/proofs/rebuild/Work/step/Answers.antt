use Rattle.std.proofs.Common.{◌++◌, [], ◌∷◌, sym, subst}
use Rattle.expr_parts.specs.Walk.{Gives}
use Rattle.expr_parts.proofs.Walking.{visit_next, join_next}
use Rattle.expr_parts.proofs.rebuild.Work.step.Goals as goal

pub visit-requires-clause-inside : goal.visit-requires-clause-inside
visit-requires-clause-inside c =
    (visit_next c.args.change c.args.e.now c.args.root c.args.self.now.tasks.items c.in-Visit.node c.in-Visit.depth c.args.self.now.built.items
    (subst (λ k. Gives c.args.change c.args.e.now c.args.root (c.args.self.now.tasks.items ++ k ∷ []) c.args.self.now.built.items) c.in-Visit.is c.requires)).0

pub visit-requires-clause-formed : goal.visit-requires-clause-formed
visit-requires-clause-formed c =
    (visit_next c.args.change c.args.e.now c.args.root c.args.self.now.tasks.items c.in-Visit.node c.in-Visit.depth c.args.self.now.built.items
    (subst (λ k. Gives c.args.change c.args.e.now c.args.root (c.args.self.now.tasks.items ++ k ∷ []) c.args.self.now.built.items) c.in-Visit.is c.requires)).1

pub visit-requires-clause-gives : goal.visit-requires-clause-gives
visit-requires-clause-gives c =
    (visit_next c.args.change c.args.e.now c.args.root c.args.self.now.tasks.items c.in-Visit.node c.in-Visit.depth c.args.self.now.built.items
    (subst (λ k. Gives c.args.change c.args.e.now c.args.root (c.args.self.now.tasks.items ++ k ∷ []) c.args.self.now.built.items) c.in-Visit.is c.requires)).2

pub join-requires-clause-inside : goal.join-requires-clause-inside
join-requires-clause-inside c =
    (join_next c.args.change c.args.e.now c.args.root c.args.self.now.tasks.items c.in-Join.node c.args.self.now.built.items
    (subst (λ k. Gives c.args.change c.args.e.now c.args.root (c.args.self.now.tasks.items ++ k ∷ []) c.args.self.now.built.items) c.in-Join.is c.requires)).0.0

pub join-requires-clause-formed : goal.join-requires-clause-formed
join-requires-clause-formed c =
    (join_next c.args.change c.args.e.now c.args.root c.args.self.now.tasks.items c.in-Join.node c.args.self.now.built.items
    (subst (λ k. Gives c.args.change c.args.e.now c.args.root (c.args.self.now.tasks.items ++ k ∷ []) c.args.self.now.built.items) c.in-Join.is c.requires)).0.1

pub join-requires-clause-enough : goal.join-requires-clause-enough
join-requires-clause-enough c =
    (join_next c.args.change c.args.e.now c.args.root c.args.self.now.tasks.items c.in-Join.node c.args.self.now.built.items
    (subst (λ k. Gives c.args.change c.args.e.now c.args.root (c.args.self.now.tasks.items ++ k ∷ []) c.args.self.now.built.items) c.in-Join.is c.requires)).0.2

pub returns-in_ok-join-in-Join : goal.returns-in_ok-join-in-Join
returns-in_ok-join-in-Join c =
    subst (Gives c.args.change c.args.e.now c.args.root c.args.self.now.tasks.items) (sym c.in_ok-join-in-Join.ensures)
    (join_next c.args.change c.args.e.now c.args.root c.args.self.now.tasks.items c.in-Join.node c.args.self.now.built.items
    (subst (λ k. Gives c.args.change c.args.e.now c.args.root (c.args.self.now.tasks.items ++ k ∷ []) c.args.self.now.built.items) c.in-Join.is c.requires)).1
