use Rattle.std.proofs.Common.{◌≡◌, ◌+◌, ◌-◌, ◌∙◌, ap, take, drop, arith}
use Rattle.tla_lexer.specs.Place.{after}
use Rattle.tla_lexer.proofs.Tokens.{tokens_of-is}
use Rattle.tla_lexer.proofs.lexer.tokens_of.Goals as goal

pub returns : goal.returns
returns c =
    let bytes = c.args.bytes.now in
    let at = c.args.found.at in
    let len = c.args.found.header.length in
    let from_zero : at - 0 ≡ at = omega arith in
    let from_at : at + len - at ≡ len = omega arith in
    rw c.headed.ensures (tokens_of-is bytes c.args.found c.after-place.result c.after-begin.result c.tokens_behind-listed.result
    c.after-place.ensures.value
    (c.after-begin.ensures.value ∙ ap (λ k. after c.after-place.result (take k (drop at bytes))) from_at)
    c.tokens_behind-listed.ensures)
