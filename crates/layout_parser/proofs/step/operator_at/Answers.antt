use Rattle.layout_parser.proofs.ChainLaws.{no-operator, found-operator}
use Rattle.layout_parser.proofs.step.operator_at.Goals as goal

pub returns-then-not-is_inside : goal.returns-then-not-is_inside
returns-then-not-is_inside c = no-operator c.args.setting c.args.fix c.args.cursor.now c.if-not-is_inside.ensures

pub returns : goal.returns
returns c = found-operator c.args.setting c.args.fix c.args.cursor.now c.spelling.result.now c.place.result c.find.result c.if-not-is_inside.ensures c.spelling.ensures c.place.ensures c.find.ensures
