use Rattle.std.proofs.Common.{arith}
use Rattle.std.proofs.lemmas.Grind.{common_steps}
use Rattle.layout_parser.specs.Reading.{reading}
use Rattle.layout_parser.proofs.Ends.{within-list}
use Rattle.layout_parser.proofs.reader.read_expr.Goals as goal

pub returns-clause-reading : goal.returns-clause-reading
unfolding reading
returns-clause-reading c = grind (arith, common_steps)

pub returns-clause-after : goal.returns-clause-after
returns-clause-after c = within-list c.one_right_tree.ensures c.ends_before_the_last.ensures c.args.tokens.now.list c.args.from c.args.region c.args.depth _ _ c.requires.list.1 c.requires.within (returns-clause-reading c)
