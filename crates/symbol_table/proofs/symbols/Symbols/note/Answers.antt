use Rattle.std.proofs.Common.{rules, ◌≡◌, true, false, map, ◌∙◌, sym, ap}
use Rattle.std.specs.Option.{is_some}
use Rattle.std.specs.Map.{lookup}
use Rattle.indexmap.proofs.CallerLemmas.{insert_entry-new}
use Rattle.symbol_table.specs.Symbols.{noted, placed}
use Rattle.symbol_table.proofs.Noted.{is_key, key_of, placed_last, placed_before, none_of}
use Rattle.symbol_table.proofs.symbols.Symbols.note.Goals as goal

pub returns-in_ok-insert-clause-noted : goal.returns-in_ok-insert-clause-noted
returns-in_ok-insert-clause-noted c =
    let p = c.args.place in
    let old = c.self.inside.numbers in
    let e : is_some (lookup (is_key (key_of p)) old.entries) ≡ false = search rules in
    ap (map placed) (c.in_ok-insert.ensures.entries ∙ insert_entry-new is_key old (key_of p) c.args.number (none_of _ e))
    ∙ placed_last p c.args.number old.entries e ∙ ap (noted p c.args.number) c.self.view_is

pub returns-else-not-contains_key-clause-noted : goal.returns-else-not-contains_key-clause-noted
returns-else-not-contains_key-clause-noted c =
    let p = c.args.place in
    let old = c.self.inside.numbers in
    let e : is_some (lookup (is_key (key_of p)) old.entries) ≡ true = search rules in
    sym c.self.view_is ∙ placed_before p c.args.number old.entries e ∙ ap (noted p c.args.number) c.self.view_is
