use Rattle.proof_checker.proofs.TupleLaws.{entry_made}
use Rattle.proof_checker.proofs.tuple.about_entry.Goals as goal

pub returns-clause-ok : goal.returns-clause-ok
returns-clause-ok c = entry_made c.args.bank.now c.make.new.self c.make-2.new.self c.finish.new.bank c.in_ok-tuple.tuple c.in_ok-numeral.numeral c.args.entry c.in_ok-formula.formula c.args.number c.args.entries.now c.requires.entry c.make.ensures.extends c.make-2.ensures.extends c.in_ok-tuple.ensures.ok c.in_ok-numeral.ensures.ok c.in_ok-formula.ensures.ok
