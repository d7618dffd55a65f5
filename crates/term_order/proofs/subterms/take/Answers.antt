use Rattle.term_order.proofs.ListingLaws.{was_seen, was_new}
use Rattle.term_order.proofs.subterms.take.Goals as goal

pub returns-then-not-branch : goal.returns-then-not-branch
returns-then-not-branch c = was_seen c.args.bank.now c.args.i c.args.seen.now.keys c.enter.new.seen.keys c.args.found.now.items c.args.stack.now.items c.in_ok-enter.field-0 c.if-not-branch.true c.in_ok-enter.ensures

pub returns : goal.returns
returns c = was_new c.visit.result c.args.bank.now c.args.i c.args.seen.now.keys c.enter.new.seen.keys c.args.found.now.items c.visit.new.found.items c.args.stack.now.items c.visit.new.stack.items c.in_ok-enter.field-0 c.if-not-branch.false c.in_ok-enter.ensures c.visit.ensures
