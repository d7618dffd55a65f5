use Rattle.std.proofs.Common.{◌≡◌, rules, subst}
use Rattle.search_definition.specs.Search.{denied}
use Rattle.term_shapes.specs.Forms.{ArePlaced}
use Rattle.leaf_prover.proofs.StartLaws.{denied_placed}
use Rattle.leaf_prover.proofs.start.intern_denied.Goals as goal

pub returns-clause-ok : goal.returns-clause-ok
returns-clause-ok c =
    let same : c.as_slice.result.now ≡ c.args.canon.now.facts = search rules in
    subst (λ fs. ArePlaced c.make.new.bank (denied fs c.args.canon.now.goal) c.push.new.self.items) same
    (denied_placed c.intern_facts.new.bank c.intern.new.self c.make.new.bank c.in_ok-list.list.items c.push.new.self.items c.as_slice.result.now c.args.canon.now.goal c.in_ok-goal.goal c.in_ok-denial.denial c.intern.ensures.extends
    c.make.ensures.extends c.in_ok-list.ensures.ok c.in_ok-goal.ensures.ok c.in_ok-denial.ensures.ok c.in_ok-push.ensures.items)
