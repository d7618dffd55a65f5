use Rattle.std.proofs.Common.{◌≡◌, ◌+◌, ◌^◌, true, take, Some, sym, ap, ◌∙◌, arith}
use Rattle.std.proofs.lemmas.List.{take_all}
use Rattle.std.proofs.lemmas.Bool.{lt-ltb, cond-true, cond-false}
use Rattle.tla_lexer.specs.Pieces.{value_of, is_small}
use Rattle.tla_lexer.proofs.Numbers.{value-more, not_small}
use Rattle.tla_lexer.proofs.piece.number_value.Goals as goal

pub returns-in_default : goal.returns-in_default
returns-in_default c =
    let i = c.loop-b.b-index in
    let more = value-more c.args.run.now i (omega arith) in
    let h = c.in_default.ensures in
    sym (cond-false _ _ _ (not_small c.args.run.now (i + 1) (omega arith)))

pub returns-in_default-checked_add : goal.returns-in_default-checked_add
returns-in_default-checked_add c =
    let i = c.loop-b.b-index in
    let more = value-more c.args.run.now i (omega arith) in
    let h = c.in_default-checked_add.ensures in
    let k = c.in-Some.ensures in
    sym (cond-false _ _ _ (not_small c.args.run.now (i + 1) (omega arith)))

pub loop-b-preserved : goal.loop-b-preserved
loop-b-preserved c =
    let more = value-more c.args.run.now c.loop-b.b-index (omega arith) in
    let first = c.in-Some.ensures in
    let second = c.in-Some-checked_add.ensures in
    (omega arith, omega arith)

pub returns : goal.returns
returns c =
    let run = c.args.run.now in
    let whole : take c.loop-b.b-index run ≡ run = take_all c.loop-b.b-index run (omega arith) in
    let all : c.loop-b.value ≡ value_of run = c.loop-b.invariant.0 ∙ ap value_of whole in
    let small : is_small run ≡ true = lt-ltb (value_of run) (2 ^ 128) (omega arith) in
    ap Some all ∙ sym (cond-true _ _ _ small)
