use Rattle.core_expr.specs.Heads.{subtrees}
use Rattle.term_bank.specs.Banks.{tree_at}
use Rattle.equation_proofs.proofs.RewritingLaws.{entry_ok, entry_zero, entry_past}
use Rattle.equation_proofs.proofs.replacing.entry.Goals as goal

pub returns-then-k-eq0-clause-is : goal.returns-then-k-eq0-clause-is
returns-then-k-eq0-clause-is c = entry_zero c.args.bank.now (tree_at c.args.bank.now c.args.t) (subtrees (tree_at c.args.bank.now c.args.g)) c.args.k c.requires.is c.if-k-eq0.true

pub returns-then-parts-k-clause-is : goal.returns-then-parts-k-clause-is
returns-then-parts-k-clause-is c = entry_past c.args.bank.now (tree_at c.args.bank.now c.args.t) (subtrees (tree_at c.args.bank.now c.args.g)) c.parts_at-parts.result.now c.args.k c.requires.is c.parts_at-parts.ensures.trees c.if-parts-k.true

pub returns-clause-is : goal.returns-clause-is
returns-clause-is c = entry_ok c.equation.result c.args.bank.now (tree_at c.args.bank.now c.args.t) (subtrees (tree_at c.args.bank.now c.args.g)) c.parts_at-parts.result.now c.args.k c.requires.is c.parts_at-parts.ensures.trees c.if-k-eq0.false c.if-parts-k.false c.equation.ensures
