use Rattle.layout_parser.proofs.ChainLaws.{front, front-chain-of, front-listed-of}
use Rattle.layout_parser.proofs.grammar.Grammar.inner.Goals as goal

pub returns-clause-chain : goal.returns-clause-chain
returns-clause-chain g c = front-chain-of _ c.args.waits c.nested.result _ (front c.args.self.now.left c.args.pieces c.args.setting c.args.waits c.args.cursor.now) c.nested.ensures

pub returns-clause-listed : goal.returns-clause-listed
returns-clause-listed g c = front-listed-of _ c.args.waits c.nested.result _ (front c.args.self.now.left c.args.pieces c.args.setting c.args.waits c.args.cursor.now) c.nested.ensures
