use Rattle.std.proofs.Common.{[], sym, ap, ◌∙◌, append-nil}
use Rattle.search_definition.specs.Terms.{occurs}
use Rattle.term_bank.specs.Banks.{tree_at}
use Rattle.term_bank.proofs.InstLaws.{Extends-trans, same_tree}
use Rattle.instance_terms.proofs.SideLaws.{side_none, side_more, side_found}
use Rattle.instance_terms.proofs.sides.has_meta.Goals as goal

pub loop-meta-init : goal.loop-meta-init
loop-meta-init c =
    record { none = side_none c.args.metas.now (tree_at c.args.bank.now c.args.e); extends = ([], sym (append-nil c.args.bank.now)); distinct = c.count.ensures.distinct }

pub returns-then-branch-clause-ok : goal.returns-then-branch-clause-ok
returns-then-branch-clause-ok c =
    let x = Extends-trans c.args.bank.now c.loop-meta.bank c.make.new.bank c.loop-meta.invariant.extends c.make.ensures.extends in
    let e = same_tree c.args.bank.now c.make.new.bank c.args.e x c.requires in
    let s = tree_at c.make.new.bank c.in_ok-node.node in
    side_found c.args.metas.now c.loop-meta.meta-index (tree_at c.args.bank.now c.args.e) s c.in_ok-occurs.field-0 c.loop-meta-test.true c.in_ok-node.ensures.ok.tree (c.in_ok-occurs.ensures ∙ ap (occurs s) e) c.if-branch.true

pub loop-meta-preserved : goal.loop-meta-preserved
loop-meta-preserved c =
    let x = Extends-trans c.args.bank.now c.loop-meta.bank c.make.new.bank c.loop-meta.invariant.extends c.make.ensures.extends in
    let e = same_tree c.args.bank.now c.make.new.bank c.args.e x c.requires in
    let s = tree_at c.make.new.bank c.in_ok-node.node in
    record {
      none = side_more c.args.metas.now c.loop-meta.meta-index (tree_at c.args.bank.now c.args.e) s c.in_ok-occurs.field-0 c.loop-meta-test.true c.in_ok-node.ensures.ok.tree (c.in_ok-occurs.ensures ∙ ap (occurs s) e) c.if-branch.false c.loop-meta.invariant.none;
      extends = x;
      distinct = c.make.ensures.distinct;
    }
