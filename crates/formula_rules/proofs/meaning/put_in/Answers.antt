use Rattle.std.proofs.Common.{rules}
use Rattle.core_expr.specs.Put.{IsScoped}
use Rattle.term_bank.specs.Banks.{tree_at}
use Rattle.formula_rules.proofs.Raising.{same_inst}
use Rattle.formula_rules.proofs.meaning.put_in.Goals as goal

pub returns-clause-ok : goal.returns-clause-ok
returns-clause-ok c =
    let k : IsScoped 0 (tree_at c.args.bank.now c.args.t) → ⊥ = search (rules, c.is_closed.ensures, c.if-is_closed.false) in
    record { within = c.requires.below.0; tree = same_inst (tree_at c.args.bank.now c.args.p) (tree_at c.args.bank.now c.args.t) c.requires.body c.requires.subject k }
