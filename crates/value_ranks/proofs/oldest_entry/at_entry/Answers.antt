use Rattle.std.proofs.Common.{◌≡◌, ◌<◌, ap, subst, sym, length}
use Rattle.branch_book.specs.declared.item.Item.{Item}
use Rattle.branch_state.specs.Parts.{shown}
use Rattle.branch_state.specs.Shown.{placed_at}
use Rattle.tableau_search.proofs.LiftLaws.{known_at}
use Rattle.value_ranks.proofs.oldest_entry.at_entry.Goals as goal

pub given_at-requires-clause-within : goal.given_at-requires-clause-within
given_at-requires-clause-within c =
    let e : c.entry-item.result.formula ≡ (placed_at (shown c.args.parts.now).now c.args.i).formula = ap (λ (x : Item). x.formula) c.entry-item.ensures in
    subst (λ f. f < length c.args.bank.now) (sym e) (known_at (length c.args.bank.now) (shown c.args.parts.now).now c.args.i c.requires.known c.requires.within)
