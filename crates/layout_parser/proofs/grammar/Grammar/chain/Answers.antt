use Rattle.std.proofs.Common.{◌∙◌, sym, subst}
use Rattle.layout_parser.specs.Nests.{Flats}
use Rattle.layout_parser.specs.Reading.{nested, chain_from, behind}
use Rattle.layout_parser.proofs.ChainLaws.{one_more, no_more, chain-more, chain-stop, chain-broken, chain-none}
use Rattle.layout_parser.proofs.grammar.Grammar.chain.Goals as goal

pub loop-turn-preserved : goal.loop-turn-preserved
loop-turn-preserved g c =
    let inner = nested c.args.self.now.left in
    let e = one_more (λ n. behind c.loop-turn.pieces.items (chain_from c.args.self.now.left inner n c.args.setting c.loop-turn.waits c.loop-turn.cursor)) _ c.loop-turn._turn c.loop-turn-test.true c.loop-turn.invariant in
    let is = rw c.in-More.is at c.in_ok-piece.ensures in
    rw c.in_ok-push_back-in-More.ensures.items (chain-more c.args.self.now.left inner _ c.args.setting c.loop-turn.waits c.in-More.opens c.loop-turn.cursor c.step.new.cursor c.in-More.piece c.loop-turn.pieces.items _ is e)

pub returns-in-Ended : goal.returns-in-Ended
returns-in-Ended g c =
    let inner = nested c.args.self.now.left in
    let e = one_more (λ n. behind c.loop-turn.pieces.items (chain_from c.args.self.now.left inner n c.args.setting c.loop-turn.waits c.loop-turn.cursor)) _ c.loop-turn._turn c.loop-turn-test.true c.loop-turn.invariant in
    let is = rw c.in-Ended.is at c.in_ok-piece.ensures in
    chain-stop c.args.self.now.left inner _ c.args.setting c.loop-turn.waits c.loop-turn.cursor c.step.new.cursor c.loop-turn.pieces.items _ is e

pub returns-in-Broken : goal.returns-in-Broken
returns-in-Broken g c =
    let inner = nested c.args.self.now.left in
    let e = one_more (λ n. behind c.loop-turn.pieces.items (chain_from c.args.self.now.left inner n c.args.setting c.loop-turn.waits c.loop-turn.cursor)) _ c.loop-turn._turn c.loop-turn-test.true c.loop-turn.invariant in
    let is = rw c.in-Broken.is at c.in_ok-piece.ensures in
    let all = chain-broken c.args.self.now.left inner _ c.args.setting c.loop-turn.waits c.loop-turn.cursor c.in-Broken.piece c.in-Broken.fault c.loop-turn.pieces.items _ is e in
    subst (λ k. Flats k c.broken.result c.step.new.cursor) (sym all) (c.broken.ensures c.step.new.cursor)

pub returns : goal.returns
returns g c =
    let inner = nested c.args.self.now.left in
    let e = no_more (λ n. behind c.loop-turn.pieces.items (chain_from c.args.self.now.left inner n c.args.setting c.loop-turn.waits c.loop-turn.cursor)) _ c.loop-turn._turn c.loop-turn-test.false c.loop-turn.invariant in
    let end = chain-none c.args.self.now.left inner c.args.setting c.loop-turn.waits c.loop-turn.cursor c.loop-turn.pieces.items _ e in
    (end.0, end.1 ∙ sym c.in_ok-fault.ensures)
