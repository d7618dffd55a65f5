use Rattle.std.proofs.Common.{◌≡◌, ◌∙◌, length, rules}
use Rattle.proof_writer.proofs.WrittenLaws.{open_count}
use Rattle.proof_writer.proofs.writer.Writer.depth.Goals as goal

pub returns : goal.returns
returns c = let f = c.self.inside.fields in let k : c.len.result ≡ length f.unused.items = search rules in k ∙ open_count c.args.self.now f.bank f.steps.items f.unused.items c.self.view_is
