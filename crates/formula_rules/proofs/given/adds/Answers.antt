use Rattle.std.proofs.Common.{◌+◌, ◌∙◌, ap, length}
use Rattle.core_expr.specs.Nodes.{AreBelow, picked}
use Rattle.term_shapes.specs.Forms.{grown}
use Rattle.formula_rules.specs.Answers.{gathered}
use Rattle.formula_rules.proofs.Listing.{placed_below, length-table}
use Rattle.formula_rules.proofs.Giving.{alone_given}
use Rattle.formula_rules.proofs.given.adds.Goals as goal

pub fetch-requires : goal.fetch-requires
fetch-requires c =
    let t = grown (picked c.args.bank.now c.args.over.now) c.args.forms.now in
    rw c.as_slice.ensures.value (placed_below c.grow.new.bank t c.in_ok-places.places.items (length c.args.over.now + length c.args.forms.now) c.args.added.now c.in_ok-places.ensures.ok (length-table c.args.bank.now c.args.over.now c.args.forms.now) c.requires.added)

pub returns-clause-ok : goal.returns-clause-ok
returns-clause-ok c =
    let t = grown (picked c.args.bank.now c.args.over.now) c.args.forms.now in
    let ps = c.in_ok-places.places.items in
    let b : AreBelow (length ps) c.args.added.now = placed_below c.grow.new.bank t ps (length c.args.over.now + length c.args.forms.now) c.args.added.now c.in_ok-places.ensures.ok (length-table c.args.bank.now c.args.over.now c.args.forms.now) c.requires.added in
    alone_given c.args.bank.now c.grow.new.bank t c.args.rule c.args.named.now c.args.terms.now ps c.args.added.now c.in_ok-from_slice.field-0 c.in_ok-from_slice-2.field-0 c.in_ok-added.added
    c.grow.ensures.extends c.requires.named c.requires.terms
    c.in_ok-from_slice.ensures.items c.in_ok-from_slice-2.ensures.items (c.in_ok-added.ensures ∙ ap (λ p. gathered p c.args.added.now) c.as_slice.ensures.value) c.in_ok-places.ensures.ok b
