use Rattle.std.proofs.Common.{◌<◌, length, rules, sym}
use Rattle.term_bank.specs.Banks.{tree_at}
use Rattle.leaf_prover.proofs.ValueLaws.{letter_over}
use Rattle.leaf_prover.proofs.values.letter.Goals as goal

pub returns-in_default : goal.returns-in_default
returns-in_default c =
    let l : 0 < length c.parts_at.result.now = search rules in
    sym (letter_over c.args.bank.now (tree_at c.args.bank.now c.args.i) c.in-Symbol-default-eq0.number c.in-Symbol-default-eq0.field-1 c.parts_at.result.now c.in-Symbol-default-eq0.ensures.form c.parts_at.ensures.trees l)
