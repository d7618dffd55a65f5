use Rattle.std.proofs.Common.{sym}
use Rattle.seq_calculus.proofs.Dispatch.{numbered_none}
use Rattle.seq_calculus.proofs.instance.for_number.Goals as goal

pub returns-in_default : goal.returns-in_default
returns-in_default c = sym (numbered_none c.args.schema c.args.number c.args.params.now c.requires c.in_default.not-TupleEquality c.in_default.not-TupleEntry)
