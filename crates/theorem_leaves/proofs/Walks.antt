-- Loops that append what each item of a list gives.
use Rattle.std.proofs.Common.{◌≡◌, ℕ, ◌+◌, ◌<◌, ◌≤◌, List, [], ◌∷◌, ◌++◌, length, drop, get_or, None, sym, ap, ◌∙◌, append_assoc, append-nil}
use Rattle.std.specs.Prelude.{slice_get}
use Rattle.std.specs.Option.{unwrap_or}
use Rattle.std.proofs.lemmas.List.{drop_more, drop_all}
use Rattle.std.proofs.lemmas.Option.{unwrap_or-slice_get}
use Rattle.symbol_table.specs.declared.entry.Entry.{Entry}
use Rattle.symbol_table.specs.Scoped.{entry_of, unlisted}

-- what a list from an item on gives, once the item's own is appended
pub next : {A B : Type 0} (f : List A → List B) (one : A → List B) → ((a : A) (more : List A) → f (a ∷ more) ≡ one a ++ f more)
    → (xs : List A) (i : ℕ) (a : A) (before now after : List B) → i < length xs → a ≡ get_or xs i a → after ≡ now ++ one a → now ++ f (drop i xs) ≡ before → after ++ f (drop (i + 1) xs) ≡ before
next f one first xs i a before now after h g e q =
    let d : drop i xs ≡ a ∷ drop (i + 1) xs = drop_more xs i a h ∙ ap (λ x. x ∷ drop (i + 1) xs) (sym g) in
    ap (λ l. l ++ f (drop (i + 1) xs)) e ∙ append_assoc now (one a) (f (drop (i + 1) xs)) ∙ ap (λ l. now ++ l) (sym (first a (drop (i + 1) xs)))
    ∙ ap (λ l. now ++ f l) (sym d) ∙ q

-- at the end of the list
pub done : {A B : Type 0} (f : List A → List B) → f [] ≡ [] → (xs : List A) (i : ℕ) (before now : List B) → length xs ≤ i → now ++ f (drop i xs) ≡ before → now ≡ before
done f e xs i before now h q = sym (append-nil now) ∙ ap (λ l. now ++ l) (sym (ap f (drop_all i xs h) ∙ e)) ∙ q

-- past the last declaration
pub past_last : (es : List Entry) (n : ℕ) → slice_get es n ≡ None → entry_of es n ≡ unlisted
past_last es n e = sym (unwrap_or-slice_get es n unlisted) ∙ ap (λ o. unwrap_or o unlisted) e
