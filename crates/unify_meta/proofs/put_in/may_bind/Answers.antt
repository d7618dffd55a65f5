use Rattle.core_expr.specs.Nodes.{canon_sym}
use Rattle.term_bank.specs.Banks.{tree_at}
use Rattle.unify_meta.proofs.RoundLaws.{not_closed, closed_binds}
use Rattle.unify_meta.proofs.put_in.may_bind.Goals as goal

pub returns-then-not-is_closed : goal.returns-then-not-is_closed
returns-then-not-is_closed c =
    not_closed (canon_sym c.args.a.name 0) (tree_at c.args.bank.now c.args.a.term) c.is_closed.result c.is_closed.ensures c.if-not-is_closed.true

pub returns : goal.returns
returns c =
    closed_binds (canon_sym c.args.a.name 0) (tree_at c.args.bank.now c.args.a.meta) (tree_at c.args.bank.now c.args.a.term) c.is_closed.result c.in_ok-occurs.occurs c.is_closed.ensures c.if-not-is_closed.false c.requires.meta.tree c.in_ok-occurs.ensures
