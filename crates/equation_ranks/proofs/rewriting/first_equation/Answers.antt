use Rattle.equation_ranks.proofs.RewriteLaws.{term_below, term_closed, term_found}
use Rattle.equation_ranks.proofs.rewriting.first_equation.Goals as goal

pub rewrite_of-requires-clause-within : goal.rewrite_of-requires-clause-within
rewrite_of-requires-clause-within c = term_below c.args.bank.now c.loop-t.bank c.args.terms.now c.loop-t.t-index _ c.loop-t.invariant.extends c.requires.below c.loop-t-test.true

pub rewrite_of-requires-clause-closed : goal.rewrite_of-requires-clause-closed
rewrite_of-requires-clause-closed c = term_closed c.args.bank.now c.loop-t.bank c.args.terms.now c.loop-t.t-index _ c.loop-t.invariant.extends c.requires.below c.requires.closed c.loop-t-test.true

pub returns-in-Some-clause-ok : goal.returns-in-Some-clause-ok
returns-in-Some-clause-ok c =
    let v = c.loop-t.invariant in
    term_found c.args.bank.now c.loop-t.bank c.rewrite_of.new.bank c.args.terms.now c.loop-t.t-index _ _ c.in-Some.equation v.extends c.requires.below c.requires.closed c.loop-t-test.true v.same c.in_ok-equation.ensures.ok c.in-Some.is
