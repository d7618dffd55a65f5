use Rattle.std.proofs.Common.{◌+◌, ◌∙◌, ap, get_or, refl, subst, sym, take}
use Rattle.leaf_prover.proofs.ValueLaws.{item_under, marks_more, marks_all, no_item}
use Rattle.leaf_prover.specs.Marks.{marked, AreMarked}
use Rattle.leaf_prover.proofs.values.values_on.Goals as goal

pub letter-number-requires : goal.letter-number-requires
letter-number-requires c = item_under _ c.args.branch.now c.loop-i.i c.requires c.loop-i-test.true

pub loop-i-preserved : goal.loop-i-preserved
loop-i-preserved c = subst (AreMarked c.args.bank.now (take (c.loop-i.i + 1) c.args.branch.now) c.args.symbols) (sym (c.mark.ensures ∙ ap (marked c.loop-i.values.items) c.letter-number.ensures))
    (marks_more c.args.bank.now c.args.branch.now c.args.symbols c.loop-i.i c.loop-i.values.items (get_or c.args.branch.now c.loop-i.i no_item) c.loop-i-test.true refl c.loop-i.invariant)

pub returns : goal.returns
returns c = marks_all c.args.bank.now c.args.branch.now c.args.symbols c.loop-i.i c.loop-i.values.items c.loop-i-test.false c.loop-i.invariant
