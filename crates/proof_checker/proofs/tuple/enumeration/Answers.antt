use Rattle.std.proofs.Common.{refl, ◌<◌, length, rules}
use Rattle.std.proofs.lemmas.List.{take_rest}
use Rattle.core_expr.specs.Nodes.{picked}
use Rattle.proof_checker.proofs.NodeLaws.{below_drop}
use Rattle.proof_checker.proofs.InstanceLaws.{enumeration_some, enumeration_empty, other_enumeration}
use Rattle.proof_checker.proofs.tuple.enumeration.Goals as goal

pub returns-then-number-ne0-clause-ok : goal.returns-then-number-ne0-clause-ok
returns-then-number-ne0-clause-ok c = other_enumeration c.args.bank.now (picked c.args.bank.now c.args.params.now) c.args.number c.if-number-ne0.true

pub returns-then-is_empty-clause-ok : goal.returns-then-is_empty-clause-ok
returns-then-is_empty-clause-ok c = enumeration_empty c.args.bank.now c.args.bank.now c.args.params.now c.args.number c.if-number-ne0.false (search rules)

pub about_enumeration-requires-clause-elements : goal.about_enumeration-requires-clause-elements
about_enumeration-requires-clause-elements c = rw (take_rest c.args.params.now 1) (below_drop (length c.args.bank.now) 1 c.args.params.now c.requires.params)

pub returns-clause-ok : goal.returns-clause-ok
returns-clause-ok c =
    let l : 0 < length c.args.params.now = search rules in
    enumeration_some c.args.bank.now c.about_enumeration.new.bank c.args.params.now _ c.args.number c.in_ok-formula.formula c.if-number-ne0.false l refl (rw (take_rest c.args.params.now 1) at c.in_ok-formula.ensures.ok)
