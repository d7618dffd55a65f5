use Rattle.std.proofs.Common.{length}
use Rattle.term_bank.proofs.TableLaws.{AreBelow-more}
use Rattle.proof_checker.proofs.SideLaws.{longer}
use Rattle.proof_checker.proofs.NodeLaws.{opened_chosen}
use Rattle.proof_checker.proofs.pattern.add_chosen.Goals as goal

pub add_instance-requires-clause-values : goal.add_instance-requires-clause-values
add_instance-requires-clause-values c = AreBelow-more (length c.args.bank.now) (length c.chosen.new.bank) c.args.values.now.items (longer c.args.bank.now c.chosen.new.bank c.chosen.ensures.extends) c.requires.values

pub returns-clause-ok : goal.returns-clause-ok
returns-clause-ok c = opened_chosen c.args.bank.now c.chosen.new.bank c.add_instance.new.bank c.args.values.now.items c.add_instance.new.values.items c.index-body.result.now c.in_ok-term.term c.in_ok-added.added c.chosen.ensures.extends c.requires.values c.requires.some c.index-body.ensures c.in_ok-term.ensures.ok c.in_ok-added.ensures.ok
