use Rattle.std.proofs.Common.{Some, subst}
use Rattle.search_definition.specs.Instances.{taken_apart}
use Rattle.formula_rules.specs.Answers.{HasTerm}
use Rattle.term_bank.specs.Banks.{tree_at}
use Rattle.instance_terms.proofs.AtomLaws.{atom_apart}
use Rattle.instance_terms.proofs.expand.atom_of.Goals as goal

pub returns-in-Some-clause-ok : goal.returns-in-Some-clause-ok
returns-in-Some-clause-ok c =
    let t = tree_at c.args.bank.now c.args.p.formula in
    let h : HasTerm c.taken_apart.new.bank (Some c.in-Some.right) (taken_apart t) = subst (λ o. HasTerm c.taken_apart.new.bank o (taken_apart t)) c.in-Some.is c.in_ok-right.ensures.ok in
    atom_apart c.taken_apart.new.bank c.args.p t c.in-Some.right c.with_sign.result c.requires.closed c.with_sign.ensures h
