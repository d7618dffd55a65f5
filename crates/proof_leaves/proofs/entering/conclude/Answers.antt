use Rattle.known_facts.specs.Shown.{items_of, context_of}
use Rattle.known_facts.specs.Grown.{Grown}
use Rattle.known_facts.proofs.Growing.{grown-then}
use Rattle.proof_leaves.proofs.Steps.{grows_by_fact, grows_by_items}
use Rattle.std.proofs.Common.{subst, sym}
use Rattle.proof_leaves.proofs.entering.conclude.Goals as goal

pub returns-in_ok-tell_fact-in-Assert-clause-grown : goal.returns-in_ok-tell_fact-in-Assert-clause-grown
returns-in_ok-tell_fact-in-Assert-clause-grown c =
    grows_by_fact (context_of c.args.context.now) (context_of c.tell_fact.new.context) _ c.in_ok-tell_fact-in-Assert.ensures

pub returns-in_ok-tell-in-Case-clause-grown : goal.returns-in_ok-tell-in-Case-clause-grown
returns-in_ok-tell-in-Case-clause-grown c =
    grows_by_fact (context_of c.args.context.now) (context_of c.tell.new.self) _ c.in_ok-tell-in-Case.ensures

pub returns-in_ok-tell_items-in-Suffices-clause-grown : goal.returns-in_ok-tell_items-in-Suffices-clause-grown
returns-in_ok-tell_items-in-Suffices-clause-grown c =
    let before = context_of c.args.context.now in
    let between = context_of c.tell_items.new.self in
    subst (λ x. Grown before.known x.known) (sym c.replace_goal.ensures.goal)
    (grows_by_items c.args.label (items_of c.as_slice.result.now) before between c.in_ok-tell_items-in-Suffices.ensures)

pub returns-in_ok-tell-in-Pick-clause-grown : goal.returns-in_ok-tell-in-Pick-clause-grown
returns-in_ok-tell-in-Pick-clause-grown c =
    let before = context_of c.args.context.now in
    let between = context_of c.tell_items-in-Pick.new.self in
    let after = context_of c.tell-in-Pick.new.self in
    grown-then before.known between.known after.known
    (grows_by_items c.args.label (items_of c.as_slice-in-Pick.result.now) before between c.in_ok-tell_items-in-Pick.ensures)
    (grows_by_fact between after _ c.in_ok-tell-in-Pick.ensures)
