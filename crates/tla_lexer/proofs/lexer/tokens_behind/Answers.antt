use Rattle.std.proofs.Common.{◌+◌, ◌-◌, length, take, drop, sym, ap, ◌∙◌, arith, Ok}
use Rattle.tla_lexer.specs.Tokens.{tokens_from, behind}
use Rattle.tla_lexer.specs.Pieces.{Within}
use Rattle.tla_lexer.specs.declared.piece.Piece.TheVariants as piece
use Rattle.tla_lexer.proofs.Tokens.{room, gap-at, token-at, end-at, fault-at, behind-front, part-len}
use Rattle.tla_lexer.proofs.lexer.tokens_behind.Goals as goal

pub loop-at-preserved-in-Gap : goal.loop-at-preserved-in-Gap
loop-at-preserved-in-Gap c =
    let bytes = c.args.bytes.now in
    let at = c.loop-at.at in
    let n = c.in-Gap.n in
    let w : Within (length (take (length bytes - at) (drop at bytes))) (piece.Gap n) = rw c.in-Gap.is at c.in_ok-n.ensures.within in
    let inside = room bytes at n c.loop-at.invariant.within w.1 in
    let next = gap-at bytes at n c.loop-at.place c.after-place.result (sym c.in_ok-n.ensures.value ∙ c.in-Gap.is) c.loop-at-test.true w.0 w.1 c.after-place.ensures.value in
    record { value = c.loop-at.invariant.value ∙ ap (behind c.loop-at.list) next; within = inside; line = omega (arith, c.after-place.ensures.line, part-len bytes at n); column = omega (arith, c.after-place.ensures.column, part-len bytes at n) }

pub loop-at-preserved : goal.loop-at-preserved
loop-at-preserved c =
    let bytes = c.args.bytes.now in
    let at = c.loop-at.at in
    let n = c.in-Token.n in
    let w : Within (length (take (length bytes - at) (drop at bytes))) (piece.Token c.in-Token.tok n) = rw c.in-Token.is at c.in_ok-n.ensures.within in
    let inside = room bytes at n c.loop-at.invariant.within w.1 in
    let next = token-at c.in-Token.tok bytes at n c.loop-at.place c.after-place-in-Token.result (sym c.in_ok-n.ensures.value ∙ c.in-Token.is) c.loop-at-test.true w.0 w.1 c.after-place-in-Token.ensures.value in
    record { value = c.loop-at.invariant.value ∙ ap (behind c.loop-at.list) next ∙ behind-front c.loop-at.list _ _ ∙ ap (λ l. behind l (tokens_from 0 c.after-place-in-Token.result (drop (at + n) bytes))) (sym c.in_ok-push-in-Token.ensures.ok); within = inside; line = omega (arith, c.after-place-in-Token.ensures.line, part-len bytes at n); column = omega (arith, c.after-place-in-Token.ensures.column, part-len bytes at n) }

pub returns-in-End : goal.returns-in-End
returns-in-End c =
    let bytes = c.args.bytes.now in
    let at = c.loop-at.at in
    c.loop-at.invariant.value ∙ ap (behind c.loop-at.list) (end-at bytes at c.loop-at.place (sym c.in_ok-n.ensures.value ∙ c.in-End.is) c.loop-at-test.true) ∙ ap Ok (sym c.in_ok-push-in-End.ensures.ok)

pub returns-in-Fault : goal.returns-in-Fault
returns-in-Fault c =
    let bytes = c.args.bytes.now in
    let at = c.loop-at.at in
    λ _. c.loop-at.invariant.value ∙ ap (behind c.loop-at.list) (fault-at c.in-Fault.kind bytes at c.in-Fault.n c.loop-at.place c.after.result (sym c.in_ok-n.ensures.value ∙ c.in-Fault.is) c.loop-at-test.true c.after.ensures.value)
