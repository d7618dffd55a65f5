use Rattle.std.proofs.Common.{◌∙◌, sym}
use Rattle.proof_writer.specs.Seen.{seen}
use Rattle.proof_writer.proofs.WrittenLaws.{some_left, discarded}
use Rattle.proof_writer.proofs.writer.Writer.discard.Goals as goal

pub take-step-requires-clause-some : goal.take-step-requires-clause-some
take-step-requires-clause-some c = let f = c.self.inside.fields in some_left c.args.self.now f.bank f.steps.items f.unused.items 1 c.self.view_is c.requires

pub returns-clause-opens : goal.returns-clause-opens
returns-clause-opens c = discarded c.args.self.now (seen c.take-step.new.fields) c.take-step.result (sym c.self.view_is ∙ c.take-step.ensures.taken)
