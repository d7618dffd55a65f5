use Rattle.std.proofs.Common.{length}
use Rattle.std.proofs.lemmas.List.{take_rest}
use Rattle.term_bank.proofs.TableLaws.{AreBelow-take}
use Rattle.proof_checker.proofs.NodeLaws.{below_drop}
use Rattle.proof_checker.proofs.run.weaken.Goals as goal

pub has_all-requires-clause-below : goal.has_all-requires-clause-below
has_all-requires-clause-below c = AreBelow-take (length c.args.bank.now) c.args.count c.args.operands.now c.requires.below

pub has_all-requires-2-clause-below : goal.has_all-requires-2-clause-below
has_all-requires-2-clause-below c = rw (take_rest c.args.operands.now c.args.count) (below_drop (length c.args.bank.now) c.args.count c.args.operands.now c.requires.below)
