use Rattle.std.proofs.Common.{◌∙◌, ap, sym}
use Rattle.term_bank.specs.Banks.{tree_at}
use Rattle.unifier_definition.specs.Unify.{difference}
use Rattle.unifier_definition.proofs.Differs.{says-self}
use Rattle.unify_meta.specs.Metas.{symbols}
use Rattle.unify_meta.proofs.disagreement.first_disagreement.Goals as goal

pub returns : goal.returns
returns c =
    c.loop-left.invariant.same
    ∙ ap (λ j. difference (symbols c.args.metas.now) (tree_at c.args.bank.now c.loop-left.left) (tree_at c.args.bank.now j)) (sym c.loop-left-test.false)
    ∙ says-self (symbols c.args.metas.now) (tree_at c.args.bank.now c.loop-left.left)
