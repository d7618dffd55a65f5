use Rattle.core_expr.specs.Nodes.{canon_sym}
use Rattle.term_bank.specs.Banks.{tree_at}
use Rattle.unify_meta.proofs.RoundLaws.{put_ok}
use Rattle.unify_meta.proofs.put_in.put_in.Goals as goal

pub returns-clause-ok : goal.returns-clause-ok
returns-clause-ok c =
    put_ok c.replace.result c.replace.new.bank (canon_sym c.args.a.name 0) (tree_at c.args.bank.now c.args.a.meta) (tree_at c.args.bank.now c.args.a.term) (tree_at c.args.bank.now c.args.e) c.requires.assigned.meta.tree c.replace.ensures.ok
