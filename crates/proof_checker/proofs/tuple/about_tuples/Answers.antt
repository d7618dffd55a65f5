use Rattle.proof_checker.proofs.TupleLaws.{tuples_made, below_grown}
use Rattle.term_bank.proofs.InstLaws.{Extends-trans}
use Rattle.proof_checker.proofs.tuple.about_tuples.Goals as goal

pub make-requires-2-clause-below : goal.make-requires-2-clause-below
make-requires-2-clause-below c = below_grown c.args.bank.now c.make.new.self c.args.right.now c.make.ensures.extends c.requires.right

pub tuple_meaning-requires-clause-left : goal.tuple_meaning-requires-clause-left
tuple_meaning-requires-clause-left c = below_grown c.args.bank.now c.make-2.new.self c.args.left.now (Extends-trans c.args.bank.now c.make.new.self c.make-2.new.self c.make.ensures.extends c.make-2.ensures.extends) c.requires.left

pub tuple_meaning-requires-clause-right : goal.tuple_meaning-requires-clause-right
tuple_meaning-requires-clause-right c = below_grown c.args.bank.now c.make-2.new.self c.args.right.now (Extends-trans c.args.bank.now c.make.new.self c.make-2.new.self c.make.ensures.extends c.make-2.ensures.extends) c.requires.right

pub returns-clause-ok : goal.returns-clause-ok
returns-clause-ok c = tuples_made c.args.bank.now c.make.new.self c.make-2.new.self c.tuple_meaning.new.bank c.finish.new.bank c.in_ok-first.first c.in_ok-second.second c.in_ok-meaning.meaning c.in_ok-formula.formula c.args.left.now c.args.right.now c.requires.left c.requires.right c.make.ensures.extends c.make-2.ensures.extends c.tuple_meaning.ensures.extends c.in_ok-first.ensures.ok c.in_ok-second.ensures.ok c.in_ok-meaning.ensures.ok c.in_ok-formula.ensures.ok
