use Rattle.std.proofs.Common.{◌<◌, ◌-◌, ◌∙◌, Err, sym, ap, subst, arith}
use Rattle.tla_ast.specs.declared.fault.Kind.TheVariants.{TooDeep}
use Rattle.tla_ast.specs.declared.fault.Fault.TheVariants as fault
use Rattle.tla_ast.specs.Answers.{Reads}
use Rattle.layout_parser.proofs.ChainLaws.{deeper}
use Rattle.proof_parser.specs.Modules.{subproof, proof_of}
use Rattle.proof_parser.proofs.proof.+read_proof.Goals as goal

pub returns-then-left-eq0 : goal.returns-then-left-eq0
unfolding subproof
returns-then-left-eq0 t c = λ told. ap (λ k. subproof k c.args.levels.now c.args.cursor.now) c.if-left-eq0.true ∙ ap (λ p. Err (fault.At p TooDeep)) (sym c.place-place.ensures)

pub returns : goal.returns
unfolding subproof
returns t c =
    let some : 0 < c.args.left = omega arith in
    subst (λ o. Reads o c.proof.result c.proof.new.cursor) (deeper (λ k. proof_of k (subproof (c.args.left - 1)) c.args.levels.now c.args.cursor.now) c.args.left some
    ∙ sym (deeper (λ k. subproof k c.args.levels.now c.args.cursor.now) c.args.left some)) c.proof.ensures
