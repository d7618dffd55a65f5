use Rattle.std.proofs.Common.{◌∙◌}
use Rattle.unify_meta.proofs.MetaLaws.{listed-any}
use Rattle.unify_meta.proofs.metas.is_listed.Goals as goal

pub returns : goal.returns
returns c = c.contains.ensures.value ∙ listed-any c.args.metas.now c.args.number
