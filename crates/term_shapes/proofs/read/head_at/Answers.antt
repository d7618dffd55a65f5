use Rattle.std.proofs.Common.{rules}
use Rattle.term_bank.specs.Banks.{HasNode}
use Rattle.term_bank.specs.Slots.{node_of}
use Rattle.term_shapes.proofs.ShapeLaws.{shown_head, head_small}
use Rattle.term_shapes.proofs.read.head_at.Goals as goal

pub returns-clause-number : goal.returns-clause-number
returns-clause-number c = let h : HasNode c.args.bank.now c.args.i (node_of c.unwrap.result.now) = search rules in shown_head c.args.bank.now c.args.i (node_of c.unwrap.result.now) h

pub returns-clause-small : goal.returns-clause-small
returns-clause-small c = let h : HasNode c.args.bank.now c.args.i (node_of c.unwrap.result.now) = search rules in head_small c.args.bank.now c.args.i (node_of c.unwrap.result.now) h
