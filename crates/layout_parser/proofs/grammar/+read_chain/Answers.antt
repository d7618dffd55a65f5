use Rattle.std.proofs.Common.{sym, subst, arith}
use Rattle.layout_parser.specs.Reading.{nested}
use Rattle.layout_parser.specs.Nests.{Flats}
use Rattle.layout_parser.proofs.ChainLaws.{nested-none, deeper}
use Rattle.layout_parser.proofs.grammar.+read_chain.Goals as goal

pub returns-then-left-eq0 : goal.returns-then-left-eq0
returns-then-left-eq0 t c = nested-none c.args.left c.args.pieces c.args.setting c.args.waits c.args.cursor.now _ _ c.if-left-eq0.true c.new.ensures.items c.too_deep.ensures

pub returns : goal.returns
unfolding nested
returns t c = subst (λ k. Flats k c.chain.result c.chain.new.cursor) (sym (deeper (λ n. nested n c.args.pieces c.args.setting c.args.waits c.args.cursor.now) c.args.left (omega arith))) c.chain.ensures
