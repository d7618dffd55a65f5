use Rattle.proof_writer.proofs.TableLaws.{grown_held, grown_opens}
use Rattle.proof_writer.proofs.writer.Writer.pattern.Goals as goal

pub invariant_of-self : goal.invariant_of-self
invariant_of-self c = let f = c.self.inside.fields in grown_held f.bank c.pattern.new.bank f.steps.items f.unused.items c.pattern.ensures.extends c.self.invariant

pub returns-clause-opens : goal.returns-clause-opens
returns-clause-opens c = let f = c.self.inside.fields in grown_opens c.args.self.now f.bank c.pattern.new.bank f.steps.items f.unused.items c.self.view_is c.pattern.ensures.extends c.self.invariant
