-- Items of statements, one after another.
use Rattle.std.proofs.Common.{◌≡◌, List, [], ◌∷◌, ◌++◌, Option, refl, sym, append-nil, ap}
use Rattle.tla_ast.specs.declared.place.Place.{Place}
use Rattle.symbol_table.specs.declared.entry.Entry.{Entry}
use Rattle.std.specs.Prelude.{ℕ}
use Rattle.plain_syntax.specs.Plain.{Item}
use Rattle.plain_syntax.specs.Plain.Item.{new, given}
use Rattle.usable_facts.specs.Proofs.{sort_items, items, domain}

-- the first item, and the others
pub items_first : (means : Place → Option ℕ) (entries : List Entry) (i : Item) (is : List Item) → items means entries (i ∷ is) ≡ items means entries (i ∷ []) ++ items means entries is
items_first means entries (new s d t) is = ap (λ x. x ++ items means entries is) (sym (append-nil (sort_items s (means d.place) (domain means entries t))))
items_first means entries (given t) is = refl
