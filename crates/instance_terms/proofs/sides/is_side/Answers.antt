use Rattle.term_bank.specs.Banks.{tree_at}
use Rattle.unify_meta.specs.Metas.{symbols}
use Rattle.instance_terms.proofs.SideLaws.{side_ok}
use Rattle.instance_terms.proofs.sides.is_side.Goals as goal

pub returns-clause-ok : goal.returns-clause-ok
returns-clause-ok c =
    side_ok c.has_meta.result (symbols c.args.metas.now) (tree_at c.args.bank.now c.args.l) c.has_no_parts.result c.has_no_parts.ensures c.if-has_no_parts.false c.has_meta.ensures.ok
