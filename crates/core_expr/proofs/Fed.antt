-- Nodes feed a hasher one after another.
use Rattle.std.proofs.Common.{◌≡◌, ℕ, ◌+◌, ◌<◌, List, [], ◌∷◌, ◌++◌, length, get_or, take, ap, sym, ◌∙◌, append-nil}
use Rattle.std.specs.List.{fold, flat_map}
use Rattle.std.proofs.lemmas.Grind.{take_at_read, flat_map-append, fold-append}
use Rattle.core_expr.specs.declared.row.Row.{Row}
use Rattle.core_expr.specs.Equality.{row_fed}

pub fed_step : {S : Type 0} (write : S → List ℕ → S) (start old new : S) (rs : List Row) (i : ℕ) (r : Row) → i < length rs → r ≡ get_or rs i r → old ≡ fold write start (flat_map row_fed (take i rs)) → new ≡ fold write old (row_fed r) → new ≡ fold write start (flat_map row_fed (take (i + 1) rs))
fed_step {S = S} write start old new rs i r h e o n =
    let t : take (i + 1) rs ≡ take i rs ++ r ∷ [] = (take_at_read rs i r h).1 ∙ ap (λ (x : Row). take i rs ++ x ∷ []) (sym e) in
    n ∙ ap (λ (s : S). fold write s (row_fed r)) o ∙ sym (fold-append write start (flat_map row_fed (take i rs)) (row_fed r)) ∙ ap (fold write start) (ap (λ l. flat_map row_fed (take i rs) ++ l) (sym (append-nil (row_fed r))) ∙ sym (flat_map-append row_fed (take i rs) (r ∷ [])) ∙ ap (flat_map row_fed) (sym t))
