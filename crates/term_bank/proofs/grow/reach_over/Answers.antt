use Rattle.std.proofs.Common.{◌≡◌, ◌∙◌, ◌<◌, ◌-◌, ℕ, suc, List, [], ◌∷◌, length, get_or, refl, ap, sym, subst, arith, max, pred, take}
use Rattle.core_expr.specs.Heads.{first}
use Rattle.core_expr.specs.Loose.{loose}
use Rattle.core_expr.specs.Nodes.{picked}
use Rattle.core_expr.specs.Tree.{true_}
use Rattle.term_bank.specs.Loose.{binds, most_loose, loose_over}
use Rattle.term_bank.specs.Slots.{trees, reach_count}
use Rattle.term_bank.proofs.NodeLaws.{binder_parts, variable_numbers, loose-head}
use Rattle.term_bank.proofs.TableLaws.{is_true, AreBelow-at, AreBelow-take, front-picked, back-picked}
use Rattle.term_bank.proofs.grow.reach_over.Goals as goal

first_is : (ns : List ℕ) → get_or ns 0 0 ≡ first ns
first_is [] = refl
first_is (n ∷ ns) = refl

pub bounds-numbers-0 : goal.bounds-numbers-0
bounds-numbers-0 c = variable_numbers c.args.head c.args.numbers.now (length c.args.parts.now) (is_true _ c.requires.form) (sym c.kind_for.ensures ∙ c.in-Bound.is)

pub overflow_sub-last : goal.overflow_sub-last
overflow_sub-last c = binder_parts c.args.head c.args.numbers.now (length c.args.parts.now) (is_true _ c.requires.form) (ap binds (sym c.kind_for.ensures ∙ c.in-Binding.is))

pub bounds-parts-last : goal.bounds-parts-last
bounds-parts-last c = let p = binder_parts c.args.head c.args.numbers.now (length c.args.parts.now) (is_true _ c.requires.form) (ap binds (sym c.kind_for.ensures ∙ c.in-Binding.is)) in omega arith

pub reach_at-body-requires : goal.reach_at-body-requires
reach_at-body-requires c =
    let p = binder_parts c.args.head c.args.numbers.now (length c.args.parts.now) (is_true _ c.requires.form) (ap binds (sym c.kind_for.ensures ∙ c.in-Binding.is)) in
    AreBelow-at (length c.args.slots.now) c.args.parts.now (length c.args.parts.now - 1) c.requires.below (omega arith)

pub widest-requires-clause-below : goal.widest-requires-clause-below
widest-requires-clause-below c = AreBelow-take (length c.args.slots.now) (length c.args.parts.now - 1) c.args.parts.now c.requires.below

pub returns-in-Bound : goal.returns-in-Bound
returns-in-Bound c =
    let ts = picked (trees c.args.slots.now) c.args.parts.now in
    ap suc (first_is c.args.numbers.now) ∙ ap (λ l. loose_over l c.args.numbers.now ts) (sym c.in-Bound.is ∙ c.kind_for.ensures) ∙ loose-head c.args.head c.args.numbers.now ts

pub returns-in-Binding : goal.returns-in-Binding
returns-in-Binding c =
    let ts = trees c.args.slots.now in
    let ps = c.args.parts.now in
    let k = sym c.kind_for.ensures ∙ c.in-Binding.is in
    let p = binder_parts c.args.head c.args.numbers.now (length ps) (is_true _ c.requires.form) (ap binds k) in
    let q : get_or ps (length ps - 1) 0 < length c.args.slots.now = AreBelow-at (length c.args.slots.now) ps (length ps - 1) c.requires.below (omega arith) in
    let r : reach_count c.reach_at-body.result ≡ loose (get_or ts (get_or ps (length ps - 1) 0) true_) = c.reach_at-body.ensures ∙ c.requires.held (get_or ps (length ps - 1) 0) q in
    subst (λ n. reach_count c.wider.result ≡ n) (ap (λ l. loose_over l c.args.numbers.now (picked ts ps)) (sym k) ∙ loose-head c.args.head c.args.numbers.now (picked ts ps))
    (rw (front-picked ts ps p, back-picked ts ps p) (c.wider.ensures ∙ ap (λ n. max n (reach_count c.outside.result)) c.widest.ensures ∙ ap (max (most_loose (picked ts (take (length ps - 1) ps)))) (c.outside.ensures ∙ ap pred r)))
