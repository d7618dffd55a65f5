use Rattle.std.proofs.Common.{◌≡◌, ◌-◌, ◌<◌, rules, arith, length, get_or, ap, ◌∙◌}
use Rattle.std.proofs.lemmas.List.{get_or_default}
use Rattle.core_expr.specs.Nodes.{picked}
use Rattle.term_shapes.specs.Forms.{grown}
use Rattle.term_shapes.proofs.FormLaws.{table_ends}
use Rattle.term_shapes.proofs.table.build.Goals as goal

pub returns-clause-ok : goal.returns-clause-ok
returns-clause-ok c =
    let ps = c.in_ok-places.places.items in
    let n : c.len.result ≡ length ps = search rules in
    let l : 0 < length ps = omega (arith, c.requires.some, c.in_ok-places.ensures.count) in
    table_ends c.grow.new.bank ps (grown (picked c.args.bank.now c.args.terms.now) c.args.forms.now) c.index.result.now c.in_ok-places.ensures.ok l
    (c.index.ensures ∙ ap (λ k. get_or ps (k - 1) c.index.result.now) n ∙ get_or_default ps (length ps - 1) c.index.result.now 0 (omega (arith, l)))
