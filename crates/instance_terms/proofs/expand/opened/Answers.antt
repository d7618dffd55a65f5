use Rattle.term_bank.specs.Banks.{tree_at}
use Rattle.term_bank.proofs.InstLaws.{same_tree}
use Rattle.instance_terms.proofs.AtomLaws.{body_opened}
use Rattle.instance_terms.proofs.expand.opened.Goals as goal

pub returns-clause-ok : goal.returns-clause-ok
returns-clause-ok c =
    body_opened c.make.new.bank c.inst.new.self c.args.first c.in_ok-number.number c.in_ok-meta.meta c.in_ok-formula.formula c.in-Some.metas c.args.p (tree_at c.args.bank.now c.args.body) c.args.body c.in_ok-number.ensures c.in-Some.ensures.1 c.in_ok-meta.ensures.ok (same_tree c.args.bank.now c.make.new.bank c.args.body c.make.ensures.extends c.requires.within) c.in_ok-formula.ensures.ok
