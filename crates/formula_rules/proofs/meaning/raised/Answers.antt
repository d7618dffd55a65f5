use Rattle.std.proofs.Common.{rules, sym}
use Rattle.core_expr.specs.Put.{IsScoped}
use Rattle.term_bank.specs.Banks.{tree_at}
use Rattle.formula_rules.proofs.Raising.{closed_shift}
use Rattle.formula_rules.proofs.meaning.raised.Goals as goal

pub returns-then-is_closed-clause-ok : goal.returns-then-is_closed-clause-ok
returns-then-is_closed-clause-ok c =
    let k : IsScoped 0 (tree_at c.args.bank.now c.args.t) = search (rules, c.is_closed.ensures, c.if-is_closed.true) in record { within = c.requires.within; tree = sym (closed_shift (tree_at c.args.bank.now c.args.t) k) }
