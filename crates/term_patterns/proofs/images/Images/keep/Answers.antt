use Rattle.std.proofs.Common.{rules, ◌≡◌, true, false, map, ◌∙◌, sym, ap}
use Rattle.std.specs.Option.{is_some}
use Rattle.std.specs.Map.{lookup}
use Rattle.indexmap.proofs.CallerLemmas.{insert_entry-new}
use Rattle.term_patterns.specs.Depths.{kept, placed}
use Rattle.term_patterns.proofs.ImageLaws.{is_key, key_of, placed_last, placed_before, none_of}
use Rattle.term_patterns.proofs.images.Images.keep.Goals as goal

pub returns-in_ok-insert : goal.returns-in_ok-insert
returns-in_ok-insert c =
    let p = c.args.spot in
    let old = c.self.inside.numbers in
    let e : is_some (lookup (is_key (key_of p)) old.entries) ≡ false = search rules in
    ap (map placed) (c.in_ok-insert.ensures.entries ∙ insert_entry-new is_key old (key_of p) c.args.image (none_of _ e))
    ∙ placed_last p c.args.image old.entries e ∙ ap (kept p c.args.image) c.self.view_is

pub returns-else-not-contains_key : goal.returns-else-not-contains_key
returns-else-not-contains_key c =
    let p = c.args.spot in
    let old = c.self.inside.numbers in
    let e : is_some (lookup (is_key (key_of p)) old.entries) ≡ true = search rules in
    sym c.self.view_is ∙ placed_before p c.args.image old.entries e ∙ ap (kept p c.args.image) c.self.view_is
