use Rattle.std.proofs.Common.{length}
use Rattle.std.proofs.lemmas.List.{take_rest}
use Rattle.term_bank.proofs.TableLaws.{AreBelow-take}
use Rattle.proof_checker.proofs.NodeLaws.{below_drop}
use Rattle.proof_checker.proofs.InstanceLaws.{tuples_some, tuples_none}
use Rattle.proof_checker.proofs.tuple.tuple_equality.Goals as goal

pub returns-then-number-params-clause-ok : goal.returns-then-number-params-clause-ok
returns-then-number-params-clause-ok c = tuples_none c.args.bank.now c.args.bank.now c.args.params.now c.args.number c.if-number-params.true

pub about_tuples-requires-clause-left : goal.about_tuples-requires-clause-left
about_tuples-requires-clause-left c = AreBelow-take (length c.args.bank.now) c.args.number c.args.params.now c.requires.params

pub about_tuples-requires-clause-right : goal.about_tuples-requires-clause-right
about_tuples-requires-clause-right c = rw (take_rest c.args.params.now c.args.number) (below_drop (length c.args.bank.now) c.args.number c.args.params.now c.requires.params)

pub returns-clause-ok : goal.returns-clause-ok
returns-clause-ok c = tuples_some c.args.bank.now c.about_tuples.new.bank c.args.params.now c.args.number c.in_ok-formula.formula c.if-number-params.false (rw (take_rest c.args.params.now c.args.number) at c.in_ok-formula.ensures.ok)
