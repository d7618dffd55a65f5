use Rattle.std.proofs.Common.{Some, None, refl}
use Rattle.core_expr.specs.Heads.{subtrees}
use Rattle.term_bank.specs.Banks.{tree_at}
use Rattle.formula_rules.proofs.Same.{entry_equation}
use Rattle.formula_rules.proofs.rewriting.of_entry.Goals as goal

pub returns-in-Some : goal.returns-in-Some
returns-in-Some c =
    let ts = c.args.bank.now in
    entry_equation ts c.args.t c.args.k (subtrees (tree_at ts c.args.f)) (tree_at ts c.args.t) (Some c.in-Some.part) c.requires.is_entry c.if-k-eq0.false (record { within = c.requires.below.0; tree = refl }) c.in-Some.ensures

pub returns-in-None : goal.returns-in-None
returns-in-None c =
    let ts = c.args.bank.now in
    entry_equation ts c.args.t c.args.k (subtrees (tree_at ts c.args.f)) (tree_at ts c.args.t) None c.requires.is_entry c.if-k-eq0.false (record { within = c.requires.below.0; tree = refl }) c.in-None.ensures
