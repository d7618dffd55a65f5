use Rattle.std.proofs.Common.{◌≤◌, length, ◌∙◌, sym, subst}
use Rattle.std.proofs.lemmas.Result.{on_ok_weaker}
use Rattle.proof_writer.specs.Seen.{seen}
use Rattle.proof_writer.specs.Written.{opens}
use Rattle.proof_writer.proofs.WrittenLaws.{some_left}
use Rattle.proof_writer.proofs.InferenceLaws.{infer_fits, infer_ok}
use Rattle.proof_writer.proofs.writer.Writer.infer.Goals as goal

pub take_some-requires-clause-some : goal.take_some-requires-clause-some
take_some-requires-clause-some c =
    let f = c.self.inside.fields in
    some_left c.args.self.now f.bank f.steps.items f.unused.items c.premises.result c.self.view_is (subst (λ n. n ≤ length (opens c.args.self.now)) (sym c.premises.ensures.is) c.requires.some)

pub put-requires-clause-form : goal.put-requires-clause-form
put-requires-clause-form c = infer_fits c.args.rule c.number.result c.none.result c.in_ok-exprs.exprs c.in_ok-premises.premises c.number.ensures c.none.ensures c.in_ok-exprs.ensures (c.in_ok-premises.ensures.ok.0 ∙ c.premises.ensures.is)

pub returns-clause-ok : goal.returns-clause-ok
returns-clause-ok c =
    on_ok_weaker c.put.result
    (λ e. infer_ok c.args.self.now (seen c.take_some.new.fields) (seen c.put.new.fields) c.args.rule c.number.result c.none.result c.in_ok-exprs.exprs c.in_ok-premises.premises c.number.ensures c.none.ensures c.in_ok-exprs.ensures
    (c.in_ok-premises.ensures.ok.0 ∙ c.premises.ensures.is) (sym c.self.view_is ∙ c.in_ok-premises.ensures.ok.1) c.take_some.ensures.held e)
    c.put.ensures.ok
