use Rattle.term_order.proofs.ListingLaws.{entered_of}
use Rattle.term_order.proofs.marks.enter.Goals as goal

pub returns : goal.returns
returns c =
    entered_of c.args.seen.now.keys c.insert.new.self.keys c.args.index c.in_ok-is_new.is_new c.in_ok-is_new.ensures.added c.in_ok-is_new.ensures.keys c.in_ok-is_new.ensures.unchanged
