use Rattle.std.proofs.Common.{◌∙◌, sym}
use Rattle.std.proofs.lemmas.Result.{on_ok_weaker}
use Rattle.proof_writer.specs.Seen.{seen}
use Rattle.proof_writer.proofs.WrittenLaws.{some_left}
use Rattle.proof_writer.proofs.InferenceLaws.{schema_fits, schema_ok}
use Rattle.proof_writer.proofs.writer.Writer.schema.Goals as goal

pub take_some-requires-clause-some : goal.take_some-requires-clause-some
take_some-requires-clause-some c = let f = c.self.inside.fields in some_left c.args.self.now f.bank f.steps.items f.unused.items 1 c.self.view_is c.requires.some

pub put-requires-clause-form : goal.put-requires-clause-form
put-requires-clause-form c = schema_fits c.args.schema c.args.z c.len.result c.in_ok-numbers.numbers c.args.params c.in_ok-premises.premises c.in_ok-numbers.ensures c.len.ensures c.in_ok-premises.ensures.ok.0

pub returns-clause-ok : goal.returns-clause-ok
returns-clause-ok c =
    on_ok_weaker c.put.result
    (λ e. schema_ok c.args.self.now (seen c.take_some.new.fields) (seen c.put.new.fields) c.args.schema c.args.z c.len.result c.in_ok-numbers.numbers c.args.params c.in_ok-premises.premises c.in_ok-numbers.ensures c.in_ok-premises.ensures.ok.0
    (sym c.self.view_is ∙ c.in_ok-premises.ensures.ok.1) c.take_some.ensures.held e)
    c.put.ensures.ok
