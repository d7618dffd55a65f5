use Rattle.term_order.proofs.ListingLaws.{listing_within, listing_taken, lighter_taken}
use Rattle.term_order.proofs.subterms.closed_subterms.Goals as goal

pub take-requires : goal.take-requires
take-requires c =
    listing_within c.args.bank.now c.args.e c.loop-i.seen.keys c.loop-i.found.items c.loop-i.stack.items c.pop.new.self.items c.in-Some.i c.in-Some.ensures.items c.loop-i.invariant

pub loop-i-smaller : goal.loop-i-smaller
loop-i-smaller c =
    lighter_taken c.args.bank.now c.loop-i.seen.keys c.take.new.seen.keys c.loop-i.found.items c.take.new.found.items c.loop-i.stack.items c.pop.new.self.items c.take.new.stack.items c.in-Some.i c.in-Some.ensures.items c.in_ok-take.ensures

pub loop-i-preserved : goal.loop-i-preserved
loop-i-preserved c =
    listing_taken c.args.bank.now c.args.e c.loop-i.seen.keys c.take.new.seen.keys c.loop-i.found.items c.take.new.found.items c.loop-i.stack.items c.pop.new.self.items c.take.new.stack.items c.in-Some.i c.count.ensures.distinct c.in-Some.ensures.items c.in_ok-take.ensures c.loop-i.invariant
