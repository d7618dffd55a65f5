use Rattle.std.proofs.Common.{◌≡◌, ◌<◌, ap, subst, sym, length}
use Rattle.branch_book.specs.declared.item.Item.{Item}
use Rattle.branch_state.specs.Parts.{shown}
use Rattle.branch_state.specs.Shown.{placed_at}
use Rattle.core_expr.specs.Put.{IsScoped}
use Rattle.term_bank.specs.Banks.{tree_at}
use Rattle.rank_rules.proofs.Entries.{known_at, closed_at}
use Rattle.rank_rules.proofs.oldest_entry.at_entry.Goals as goal

pub answer-requires-clause-within : goal.answer-requires-clause-within
answer-requires-clause-within c =
    let e : c.entry-item.result.formula ≡ (placed_at (shown c.args.parts.now).now c.args.i).formula = ap (λ (x : Item). x.formula) c.entry-item.ensures in
    subst (λ f. f < length c.args.bank.now) (sym e) (known_at (length c.args.bank.now) (shown c.args.parts.now).now c.args.i c.requires.known c.requires.within)

pub answer-requires-clause-closed : goal.answer-requires-clause-closed
answer-requires-clause-closed c =
    let e : c.entry-item.result.formula ≡ (placed_at (shown c.args.parts.now).now c.args.i).formula = ap (λ (x : Item). x.formula) c.entry-item.ensures in
    subst (λ f. IsScoped 0 (tree_at c.args.bank.now f)) (sym e) (closed_at c.args.bank.now (shown c.args.parts.now).now c.args.i c.requires.closed c.requires.within)
