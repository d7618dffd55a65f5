use Rattle.std.proofs.Common.{length, subst, sym, ap, ◌∙◌}
use Rattle.std.specs.Prelude.{IfOk}
use Rattle.search_definition.specs.Rules.{at_entry}
use Rattle.branch_book.specs.declared.item.Item.{Item}
use Rattle.branch_state.specs.Parts.{shown}
use Rattle.tableau_search.specs.Found.{IsAnswer}
use Rattle.equation_ranks.proofs.ClosingLaws.{entry_below}
use Rattle.equation_ranks.proofs.RewriteLaws.{entry_rewrite}
use Rattle.equation_ranks.proofs.rewriting.rewritten_at.Goals as goal

pub rewritten-requires : goal.rewritten-requires
rewritten-requires c = entry_below (length c.args.bank.now) (shown c.args.parts.now).now c.args.i c.entry-item.result c.requires.known c.requires.within c.entry-item.ensures

pub returns-then-item-clause-answer : goal.returns-then-item-clause-answer
returns-then-item-clause-answer c =
    let ts = c.args.bank.now in
    let us = c.rewritten.new.bank in
    let es = (shown c.args.parts.now).now in
    let l = c.requires.within in
    let v = c.if-item.true in
    let e = c.entry-item.ensures in
    subst (λ o. IfOk c.rewritten.result (IsAnswer us es (at_entry c.args.i o)))
    (sym (entry_rewrite ts us es c.args.i c.entry-item.result c.rewritten.ensures.extends c.requires.known l e v))
    (c.rewritten.ensures.answer es l (sym (ap (λ (x : Item). x.live) e) ∙ v))
