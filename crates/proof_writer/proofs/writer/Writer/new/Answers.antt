use Rattle.std.proofs.Common.{[], ap}
use Rattle.proof_writer.specs.Written.{backwards, seen_of}
use Rattle.proof_writer.proofs.WrittenLaws.{empty_opens}
use Rattle.proof_writer.proofs.writer.Writer.new.Goals as goal

pub returns-clause-opens : goal.returns-clause-opens
returns-clause-opens c = empty_opens (seen_of c.args.bank c.new.result.items c.new-2.result.items) (ap (backwards []) c.new-2.ensures.items)
