use Rattle.std.proofs.Common.{Some, subst}
use Rattle.search_definition.specs.Equations.{replace_rule}
use Rattle.tableau_search.specs.Entries.{branch_of}
use Rattle.equation_ranks.specs.Replacing.{HasReplacement}
use Rattle.search_definition.specs.declared.rule.Rank.TheVariants as rank
use Rattle.branch_state.specs.Parts.{shown}
use Rattle.tableau_search.proofs.ClosedLaws.{closed_kept}
use Rattle.equation_ranks.proofs.ReplaceLaws.{replacement_after, adds_closed, none_fits}
use Rattle.equation_ranks.proofs.replacing.replace_from.Goals as goal

pub returns-in_ok-replaced-in-Some-clause-answer : goal.returns-in_ok-replaced-in-Some-clause-answer
returns-in_ok-replaced-in-Some-clause-answer c =
    replacement_after c.args.bank.now c.replaced.new.bank (shown c.args.parts.now).now c.in-Some.replacement _ c.in_ok-replaced-in-Some.field-0 c.replaced.ensures.extends c.requires.known c.in_ok-replacement.ensures.ok c.in-Some.is c.in_ok-replaced-in-Some.ensures.found

pub returns-in_ok-replaced-in-Some-clause-closed : goal.returns-in_ok-replaced-in-Some-clause-closed
returns-in_ok-replaced-in-Some-clause-closed c =
    let ts = c.args.bank.now in
    let us = c.replaced.new.bank in
    let es = (shown c.args.parts.now).now in
    let f = c.in_ok-replaced-in-Some.field-0 in
    let x = c.replaced.ensures.extends in
    adds_closed (record { spare = 0; metas = 0 }) us es rank.Replace (Some f) (closed_kept ts us es x c.requires.known c.requires.closed)
    (replacement_after ts us es c.in-Some.replacement _ f x c.requires.known c.in_ok-replacement.ensures.ok c.in-Some.is c.in_ok-replaced-in-Some.ensures.found)

pub returns-in-None-clause-tried : goal.returns-in-None-clause-tried
returns-in-None-clause-tried c = λ e.
    let ts = c.args.bank.now in
    let es = (shown c.args.parts.now).now in
    none_fits ts es (subst (HasReplacement ts es (replace_rule (branch_of ts es))) c.in-None.is c.in_ok-replacement.ensures.ok)
