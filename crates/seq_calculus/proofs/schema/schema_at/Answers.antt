use Rattle.std.proofs.Common.{◌∙◌}
use Rattle.seq_calculus.proofs.Named.{numbered}
use Rattle.seq_calculus.proofs.schema.schema_at.Goals as goal

pub returns : goal.returns
returns c = c.copied.ensures ∙ c.at.ensures ∙ numbered c.args.number c.if-number-eq0.false
