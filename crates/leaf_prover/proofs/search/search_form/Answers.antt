use Rattle.search_definition.specs.Search.{denied}
use Rattle.leaf_prover.proofs.SearchLaws.{formulas_are, formulas_closed, searched_is}
use Rattle.leaf_prover.proofs.search.search_form.Goals as goal

pub search-requires-clause-closed : goal.search-requires-clause-closed
search-requires-clause-closed c =
    formulas_closed c.args.canon.now _ c.requires.form
    (formulas_are c.intern_denied.new.bank (denied c.args.canon.now.facts c.args.canon.now.goal) c.in_ok-denied.denied.formulas.items c.as_slice.result.now c.as_slice-2.result.now c.in_ok-formulas.formulas.items c.as_slice.ensures.value
    c.as_slice-2.ensures.value c.in_ok-denied.ensures.ok c.in_ok-formulas.ensures)

pub returns : goal.returns
returns c =
    let given = (formulas_are c.intern_denied.new.bank (denied c.args.canon.now.facts c.args.canon.now.goal) c.in_ok-denied.denied.formulas.items c.as_slice.result.now c.as_slice-2.result.now c.in_ok-formulas.formulas.items c.as_slice.ensures.value
    c.as_slice-2.ensures.value c.in_ok-denied.ensures.ok c.in_ok-formulas.ensures) in
    let h = c.in_ok-solved.ensures in
    searched_is c.args.canon.now c.args.limit c.turns.result c.intern_denied.new.bank _ _ c.turns.ensures.turns c.bank_of.ensures c.in_ok-unused.ensures.above h.extends c.in_ok-denied.ensures.goal h.known h.under
    (h.ends c.args.canon.now.facts c.args.canon.now.goal c.in_ok-unused.ensures.fresh given)
    (h.steps c.args.canon.now.facts c.args.canon.now.goal c.in_ok-unused.ensures.fresh given)
