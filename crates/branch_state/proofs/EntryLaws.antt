-- Entries with their needs.
use Rattle.std.proofs.Common.{◌≡◌, ℕ, zero, suc, ◌<◌, ◌≤◌, Bool, true, false, List, [], ◌∷◌, ◌++◌, length, get_or, take, map, refl, ap, arith, ◌∙◌, eqb, eq-eqb}
use Rattle.std.proofs.lemmas.List.{get_or_append_left, get_or-take}
use Rattle.std.proofs.lemmas.Bool.{ne_eqb}
use Rattle.branch_book.specs.declared.item.Item.{Item}
use Rattle.branch_book.specs.Links.{item_at}
use Rattle.branch_book.specs.States.{stands as stands_in, with_life, with_count}
use Rattle.branch_state.specs.declared.parts.New.{New}
use Rattle.branch_state.specs.Shown.{Placed, placed_at, set_at, stands, with_new, with_all, dead, raised, live_at, needs_at}
use Rattle.branch_state.specs.Parts.{placed, entries, Wait, wait_at}

-- links behind those of the entries
pub entries_more : (ss : List (List ℕ)) (ls ms : List ℕ) (xs : List Item) → length xs ≤ length ls → entries ss (ls ++ ms) xs ≡ entries ss ls xs
entries_more ss ls ms [] l = refl
entries_more ss [] ms (x ∷ xs) l = absurd (omega (arith, l))
entries_more ss (k ∷ ls) ms (x ∷ xs) l = ap (λ es. placed ss k x ∷ es) (entries_more ss ls ms xs (omega (arith, l)))

-- links from the end of the entries on go
pub entries_take : (ss : List (List ℕ)) (ls : List ℕ) (n : ℕ) (xs : List Item) → length xs ≤ n → entries ss (take n ls) xs ≡ entries ss ls xs
entries_take ss ls n [] l = refl
entries_take ss ls zero (x ∷ xs) l = absurd (omega (arith, l))
entries_take ss [] (suc n) (x ∷ xs) l = refl
entries_take ss (k ∷ ls) (suc n) (x ∷ xs) l = ap (λ es. placed ss k x ∷ es) (entries_take ss ls n xs (omega (arith, l)))

-- sets behind those of the entries
pub entries_sets : (ss ts : List (List ℕ)) (ls : List ℕ) (xs : List Item) → ((i : ℕ) → i < length xs → get_or ls i 0 < length ss) → entries (ss ++ ts) ls xs ≡ entries ss ls xs
entries_sets ss ts ls [] h = refl
entries_sets ss ts [] (x ∷ xs) h = refl
entries_sets ss ts (k ∷ ls) (x ∷ xs) h =
    let a : set_at (ss ++ ts) k ≡ set_at ss k = get_or_append_left ss ts [] k (h 0 (omega arith)) in
    let b : entries (ss ++ ts) ls xs ≡ entries ss ls xs = entries_sets ss ts ls xs (λ i l. h (suc i) (omega (arith, l))) in
    λ j. record { formula = x.formula; class = x.class; live = x.live; count = x.count; needs = a j } ∷ b j

-- sets and links that the entries do not use go
entries_cut : (ss : List (List ℕ)) (ls : List ℕ) (n : ℕ) (xs : List Item) → ((i : ℕ) → i < length xs → get_or ls i 0 < n) → entries (take n ss) ls xs ≡ entries ss ls xs
entries_cut ss ls n [] h = refl
entries_cut ss [] n (x ∷ xs) h = refl
entries_cut ss (k ∷ ls) n (x ∷ xs) h =
    let a : set_at (take n ss) k ≡ set_at ss k = get_or-take n ss k [] (h 0 (omega arith)) in
    let b : entries (take n ss) ls xs ≡ entries ss ls xs = entries_cut ss ls n xs (λ i l. h (suc i) (omega (arith, l))) in
    λ j. record { formula = x.formula; class = x.class; live = x.live; count = x.count; needs = a j } ∷ b j

pub entries_back : (ss : List (List ℕ)) (ls : List ℕ) (m n : ℕ) (xs : List Item) → length xs ≤ m → ((i : ℕ) → i < length xs → get_or ls i 0 < n) → entries (take n ss) (take m ls) xs ≡ entries ss ls xs
entries_back ss ls m n xs l h = entries_take (take n ss) ls m xs l ∙ entries_cut ss ls n xs h

-- the i-th entry
pub entries_at : (ss : List (List ℕ)) (ls : List ℕ) (xs : List Item) (i : ℕ) → length xs ≤ length ls → i < length xs → placed_at (entries ss ls xs) i ≡ placed ss (get_or ls i 0) (item_at xs i)
entries_at ss ls [] i l m = absurd (omega (arith, m))
entries_at ss [] (x ∷ xs) i l m = absurd (omega (arith, l))
entries_at ss (k ∷ ls) (x ∷ xs) zero l m = refl
entries_at ss (k ∷ ls) (x ∷ xs) (suc i) l m = entries_at ss ls xs i (omega (arith, l)) (omega (arith, m))

pub entries_push : (ss : List (List ℕ)) (ls : List ℕ) (k : ℕ) (xs : List Item) (x : Item) → length xs ≡ length ls → entries ss (ls ++ k ∷ []) (xs ++ x ∷ []) ≡ entries ss ls xs ++ placed ss k x ∷ []
entries_push ss [] k [] x e = refl
entries_push ss (l ∷ ls) k [] x e = absurd (omega (arith, e))
entries_push ss [] k (y ∷ ys) x e = absurd (omega (arith, e))
entries_push ss (l ∷ ls) k (y ∷ ys) x e = ap (λ es. placed ss l y ∷ es) (entries_push ss ls k ys x (omega (arith, e)))

pub entries_stands : (ss : List (List ℕ)) (ls : List ℕ) (xs : List Item) (f : ℕ) → length xs ≤ length ls → stands (entries ss ls xs) f ≡ stands_in xs f
entries_stands ss ls [] f l = refl
entries_stands ss [] (x ∷ xs) f l = absurd (omega (arith, l))
entries_stands ss (k ∷ ls) (x ∷ xs) f l = ap (λ b. elim (eqb x.formula f) [ true ↦ true | false ↦ b ]) (entries_stands ss ls xs f (omega (arith, l)))

pub entries_length : (ss : List (List ℕ)) (ls : List ℕ) (xs : List Item) → length xs ≤ length ls → length (entries ss ls xs) ≡ length xs
entries_length ss ls [] l = refl
entries_length ss [] (x ∷ xs) l = absurd (omega (arith, l))
entries_length ss (k ∷ ls) (x ∷ xs) l = ap suc (entries_length ss ls xs (omega (arith, l)))

pub entries_dead : (ss : List (List ℕ)) (ls : List ℕ) (xs : List Item) (i : ℕ) → length xs ≤ length ls → entries ss ls (with_life false xs i) ≡ dead (entries ss ls xs) i
entries_dead ss ls [] zero l = refl
entries_dead ss ls [] (suc i) l = refl
entries_dead ss [] (x ∷ xs) i l = absurd (omega (arith, l))
entries_dead ss (k ∷ ls) (x ∷ xs) zero l = refl
entries_dead ss (k ∷ ls) (x ∷ xs) (suc i) l = ap (λ es. placed ss k x ∷ es) (entries_dead ss ls xs i (omega (arith, l)))

pub entries_raised : (ss : List (List ℕ)) (ls : List ℕ) (xs : List Item) (i : ℕ) → length xs ≤ length ls → entries ss ls (with_count (suc (item_at xs i).count) xs i) ≡ raised (entries ss ls xs) i
entries_raised ss ls [] zero l = refl
entries_raised ss ls [] (suc i) l = refl
entries_raised ss [] (x ∷ xs) i l = absurd (omega (arith, l))
entries_raised ss (k ∷ ls) (x ∷ xs) zero l = refl
entries_raised ss (k ∷ ls) (x ∷ xs) (suc i) l = ap (λ es. placed ss k x ∷ es) (entries_raised ss ls xs i (omega (arith, l)))

-- formulas one after the other
pub with_all_push : (needs : List ℕ) (es : List Placed) (ns : List New) (n : New) → with_all needs es (ns ++ n ∷ []) ≡ with_new needs (with_all needs es ns) n
with_all_push needs es [] n = refl
with_all_push needs es (m ∷ ns) n = with_all_push needs (with_new needs es m) ns n

-- two functions that agree at each element
pub map_agrees : (f g : Wait → List Placed) (ws : List Wait) → ((k : ℕ) → k < length ws → f (wait_at ws k) ≡ g (wait_at ws k)) → map f ws ≡ map g ws
map_agrees f g [] h = refl
map_agrees f g (w ∷ ws) h =
    let a : f w ≡ g w = h 0 (omega arith) in
    let b : map f ws ≡ map g ws = map_agrees f g ws (λ k l. h (suc k) (omega (arith, l))) in
    λ j. a j ∷ b j

-- where the formula's first entry is the i-th
pub needs_found : (ss : List (List ℕ)) (ls : List ℕ) (xs : List Item) (f i : ℕ) → length xs ≤ length ls → i < length xs → (item_at xs i).formula ≡ f → ((j : ℕ) → j < length xs → (item_at xs j).formula ≡ f → j ≡ i)
    → needs_at (entries ss ls xs) f ≡ set_at ss (get_or ls i 0)
needs_found ss ls [] f i l m e o = absurd (omega (arith, m))
needs_found ss [] (x ∷ xs) f i l m e o = absurd (omega (arith, l))
needs_found ss (k ∷ ls) (x ∷ xs) f zero l m e o = ap (λ b. elim b [ true ↦ set_at ss k | false ↦ needs_at (entries ss ls xs) f ]) (eq-eqb x.formula f e)
needs_found ss (k ∷ ls) (x ∷ xs) f (suc i) l m e o =
    let n : x.formula ≡ f → ⊥ = λ p. absurd (differs i (o 0 (omega arith) p)) in
    ap (λ b. elim b [ true ↦ set_at ss k | false ↦ needs_at (entries ss ls xs) f ]) (ne_eqb x.formula f n)
    ∙ needs_found ss ls xs f i (omega (arith, l)) (omega (arith, m)) e (λ j p q. let r : suc j ≡ suc i = o (suc j) (omega (arith, p)) q in omega (arith, r))
  where
    differs : (i : ℕ) → 0 ≡ suc i → ⊥
    differs i q = omega (arith, q)

pub needs_absent : (ss : List (List ℕ)) (ls : List ℕ) (xs : List Item) (f : ℕ) → length xs ≤ length ls → ((j : ℕ) → j < length xs → (item_at xs j).formula ≡ f → ⊥) → needs_at (entries ss ls xs) f ≡ []
needs_absent ss ls [] f l o = refl
needs_absent ss [] (x ∷ xs) f l o = absurd (omega (arith, l))
needs_absent ss (k ∷ ls) (x ∷ xs) f l o =
    ap (λ b. elim b [ true ↦ set_at ss k | false ↦ needs_at (entries ss ls xs) f ]) (ne_eqb x.formula f (o 0 (omega arith)))
    ∙ needs_absent ss ls xs f (omega (arith, l)) (λ j p q. o (suc j) (omega (arith, p)) q)

pub dead_length : (es : List Placed) (i : ℕ) → length (dead es i) ≡ length es
dead_length [] i = refl
dead_length (e ∷ es) zero = refl
dead_length (e ∷ es) (suc i) = ap suc (dead_length es i)

pub live_length : (b : Bool) (es : List Placed) (i : ℕ) → length (live_at b es i) ≡ length es
live_length true es i = refl
live_length false es i = dead_length es i

-- a formula that stands, and one that does not
pub stands_found : (xs : List Item) (f i : ℕ) → i < length xs → (item_at xs i).formula ≡ f → stands_in xs f ≡ true
stands_found [] f i l e = absurd (omega (arith, l))
stands_found (x ∷ xs) f zero l e = ap (λ b. elim b [ true ↦ true | false ↦ stands_in xs f ]) (eq-eqb x.formula f e)
stands_found (x ∷ xs) f (suc i) l e = go (eqb x.formula f) (stands_found xs f i (omega (arith, l)) e)
  where
    go : (b : Bool) → stands_in xs f ≡ true → elim b [ true ↦ true | false ↦ stands_in xs f ] ≡ true
    go true h = refl
    go false h = h

pub stands_absent : (xs : List Item) (f : ℕ) → ((j : ℕ) → j < length xs → (item_at xs j).formula ≡ f → ⊥) → stands_in xs f ≡ false
stands_absent [] f o = refl
stands_absent (x ∷ xs) f o =
    ap (λ b. elim b [ true ↦ true | false ↦ stands_in xs f ]) (ne_eqb x.formula f (o 0 (omega arith)))
    ∙ stands_absent xs f (λ j p q. o (suc j) (omega (arith, p)) q)
