use Rattle.std.proofs.Common.{◌≡◌, ◌<◌, get_or, length, rules}
use Rattle.core_expr.proofs.BuildLaws.{text_step}
use Rattle.core_expr.proofs.construct.text_numbers.Goals as goal

pub loop-byte-preserved : goal.loop-byte-preserved
loop-byte-preserved c =
    let bytes = c.args.bytes.now in
    let byte : c.from.result ≡ get_or bytes c.loop-byte.byte-index c.from.result = search rules in
    let small : c.from.result < 256 = search rules in
    text_step bytes c.loop-byte.byte-index c.from.result (length bytes) c.loop-byte.numbers c.push.new.self c.loop-byte-test.true byte small c.loop-byte.invariant c.in_ok-push.ensures.ok
