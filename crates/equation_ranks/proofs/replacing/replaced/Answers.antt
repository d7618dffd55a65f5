use Rattle.std.proofs.Common.{length, subst, arith, Some}
use Rattle.std.specs.Prelude.{IfOk}
use Rattle.branch_state.specs.Parts.{shown}
use Rattle.tableau_search.specs.Found.{IsFound}
use Rattle.tableau_search.proofs.LiftLaws.{extends_length}
use Rattle.equation_ranks.proofs.ClosingLaws.{entry_below}
use Rattle.equation_ranks.proofs.ReplaceLaws.{replaced_kept}
use Rattle.equation_ranks.proofs.replacing.replaced.Goals as goal

pub replace-requires-clause-start : goal.replace-requires-clause-start
replace-requires-clause-start c = entry_below (length c.args.bank.now) (shown c.args.parts.now).now c.args.replacement.place c.entry-f.result c.requires.known c.requires.replacement.within c.entry-f.ensures

pub alone_found-requires-clause-named : goal.alone_found-requires-clause-named
alone_found-requires-clause-named c =
    let ts = c.args.bank.now in
    let us = c.replace.new.bank in
    let m = extends_length ts us c.replace.ensures.extends in
    let l = entry_below (length ts) (shown c.args.parts.now).now c.args.replacement.place c.entry-f.result c.requires.known c.requires.replacement.within c.entry-f.ensures in
    (omega (arith, l, m), (omega (arith, c.requires.replacement.equation, m), tt))

pub returns-clause-found : goal.returns-clause-found
returns-clause-found c =
    let ts = c.args.bank.now in
    let us = c.replace.new.bank in
    let es = (shown c.args.parts.now).now in
    let r = c.requires.replacement in
    subst (λ x. IfOk c.alone_found.result (IsFound us es (Some x)))
    (replaced_kept ts us es c.args.replacement c.entry-f.result c.in_ok-changed.changed c.replace.ensures.extends c.requires.known r c.entry-f.ensures c.in_ok-changed.ensures.ok)
    (c.alone_found.ensures es r.within r.lives)
