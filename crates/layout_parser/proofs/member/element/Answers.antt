use Rattle.layout_parser.proofs.ChainLaws.{two-listed}
use Rattle.layout_parser.proofs.member.element.Goals as goal

pub finished-requires-clause-listed : goal.finished-requires-clause-listed
finished-requires-clause-listed c = two-listed _ _ _ _ _ c.args.bound.sign c.in_ok-put_before-2.ensures c.in_ok-put_before.ensures c.in_ok-member_at.ensures c.requires.listed
