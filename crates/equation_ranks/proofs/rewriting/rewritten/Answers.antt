use Rattle.std.proofs.Common.{subst, sym, ap, ◌∙◌}
use Rattle.core_expr.specs.Nodes.{picked}
use Rattle.term_bank.specs.Banks.{tree_at}
use Rattle.tableau_search.specs.Found.{IsFound}
use Rattle.equation_ranks.proofs.RewriteLaws.{subterms_closed, rewrite_result, rewrite_none}
use Rattle.equation_ranks.proofs.rewriting.rewritten.Goals as goal

pub first_equation-requires-clause-closed : goal.first_equation-requires-clause-closed
first_equation-requires-clause-closed c =
    let ts = c.args.bank.now in
    subterms_closed ts c.as_slice.result.now (tree_at ts c.args.f) (ap (picked ts) c.as_slice.ensures.value ∙ c.in_ok-terms.ensures.ok)

pub returns-in-Some-clause-answer : goal.returns-in-Some-clause-answer
returns-in-Some-clause-answer c = λ es l v.
    let ts = c.args.bank.now in
    let us = c.first_equation.new.bank in
    let q = ap (picked ts) c.as_slice.ensures.value ∙ c.in_ok-terms.ensures.ok in
    subst (λ o. IsFound c.by_equation.new.bank es o c.in_ok-by_equation-in-Some.field-0)
    (sym (rewrite_result ts us c.args.i c.args.f c.as_slice.result.now _ c.in-Some.equation c.first_equation.ensures.extends c.requires q c.in_ok-equation.ensures.ok c.in-Some.is))
    (c.in_ok-by_equation-in-Some.ensures.found es l v)

pub returns-clause-answer : goal.returns-clause-answer
returns-clause-answer c = λ es l v.
    let ts = c.args.bank.now in
    let q = ap (picked ts) c.as_slice.ensures.value ∙ c.in_ok-terms.ensures.ok in
    rewrite_none ts c.first_equation.new.bank c.args.i c.args.f c.as_slice.result.now _ q c.in_ok-equation.ensures.ok c.in-None.is
