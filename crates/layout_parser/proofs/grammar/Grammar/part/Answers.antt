use Rattle.std.proofs.Common.{sym, subst, true}
use Rattle.tla_ast.specs.Answers.{Reads}
use Rattle.layout_parser.specs.Reading.{part, nested, finished}
use Rattle.layout_parser.proofs.ChainLaws.{flats-is}
use Rattle.layout_parser.proofs.grammar.Grammar.part.Goals as goal

pub returns : goal.returns
unfolding part
returns g c =
    let is = flats-is _ c.in_ok-flat.flat c.inner.new.cursor c.in_ok-flat.ensures.flats in
    let whole = subst (λ k. Reads (finished k) c.finished.result c.inner.new.cursor) (sym is) (c.finished.ensures c.inner.new.cursor) in
    subst (λ n. Reads (finished (nested c.args.self.now.left n c.args.setting true c.args.cursor.now)) c.finished.result c.inner.new.cursor) c.left-most.ensures whole
