-- What each change of the parts keeps, and how it shows.
use Rattle.std.proofs.Common.{◌≡◌, ℕ, suc, ◌+◌, ◌<◌, ◌≤◌, Bool, true, false, List, [], ◌∷◌, ◌++◌, length, get_or, take, map, refl, ap, sym, ◌∙◌, arith, subst, inl, inr}
use Rattle.std.proofs.lemmas.List.{get_or_append_left, get_or_push, length_push, get_or-take, length-take-le, map-append, take-map, length-set, get_or-map}
use Rattle.std.proofs.lemmas.Bool.{cases_lt}
use Rattle.branch_book.specs.declared.item.Item.{Item}
use Rattle.branch_book.specs.Links.{item_at}
use Rattle.branch_book.specs.States.{Seen, stands as stands_in, fresh as fresh_item, changed, undone, with_life, with_count, killed as book_killed, counted as book_counted, added as book_added}
use Rattle.branch_state.specs.declared.parts.New.{New}
use Rattle.branch_state.specs.Shown.{Placed, Shown, Falls, set_at, stands, fresh, with_all, dead, raised, moved, added, all_added, killed, counted, kept_set, put_off, reopened}
use Rattle.branch_state.specs.Parts.{state, entries, Wait, wait_at, no_wait, Core, waiting, shown_of, taken_back, IsHeld, AreClassed}
use Rattle.branch_state.proofs.EntryLaws.{entries_more, entries_take, entries_sets, entries_back, entries_push, entries_stands, entries_dead, entries_raised, map_agrees}
use Rattle.branch_state.proofs.StateLaws.{state_now, state_changed, state_undone, past_undone, rises_changed, rises_undone}

-- a state has no more entries than the present one
pub no_more : (c : Core) → IsHeld c → (m : ℕ) → length (state c.book m) ≤ length c.book.now
no_more c h m =
    let p : ℕ = length c.book.past in
    let a = ap length (state_now c.book p (omega arith)) in
    elim (cases_lt p m) [
      | inl l ↦ let b = ap length (state_now c.book m (omega (arith, l))) in omega (arith, b)
      | inr l ↦ omega (arith, a, h.rising m p l)
    ]

-- the same but for what is named

abbrev pub with_book : Core → Seen → Core
with_book c b = record { book = b; links = c.links; sets = c.sets; waits = c.waits }

abbrev pub with_sets : Core → List (List ℕ) → Core
with_sets c ss = record { book = c.book; links = c.links; sets = ss; waits = c.waits }

abbrev pub with_waits : Core → List Wait → Core
with_waits c ws = record { book = c.book; links = c.links; sets = c.sets; waits = ws }

abbrev pub with_links : Core → List ℕ → Core
with_links c ls = record { book = c.book; links = ls; sets = c.sets; waits = c.waits }

-- the links go from the end of the entries on, and one comes
pub links_held : (c : Core) → IsHeld c → IsHeld (with_links c (take (length c.book.now) c.links))
links_held c h =
    let n = length c.book.now in
    let len : length (take n c.links) ≡ n = length-take-le n c.links h.room in
    record {
      rising = h.rising;
      room = omega (arith, len);
      marks = h.marks;
      order = h.order;
      links = λ i l. subst (λ k. k < length c.sets) (sym (get_or-take n c.links i 0 (omega (arith, l, len)))) (h.links i (omega (arith, l, len, h.room)));
      falls = h.falls;
      needs = h.needs;
      cuts = h.cuts;
      grows = h.grows;
      below = λ k i x y. subst (λ b. b < (wait_at c.waits k).sets) (sym (get_or-take n c.links i 0 (omega (arith, y, no_more c h (wait_at c.waits k).mark)))) (h.below k i x y);
      classed = h.classed;
    }

pub links_shown : (c : Core) → IsHeld c → shown_of (with_links c (take (length c.book.now) c.links)) ≡ shown_of c
links_shown c h =
    let n = length c.book.now in
    let a : entries c.sets (take n c.links) c.book.now ≡ entries c.sets c.links c.book.now = entries_take c.sets c.links n c.book.now (omega arith) in
    let b : map (waiting c.book (take n c.links) c.sets) c.waits ≡ map (waiting c.book c.links c.sets) c.waits =
    map_agrees (waiting c.book (take n c.links) c.sets) (waiting c.book c.links c.sets) c.waits
    (λ k l. ap (λ es. with_all (set_at c.sets (wait_at c.waits k).needs) es (wait_at c.waits k).added) (entries_take c.sets c.links n (state c.book (wait_at c.waits k).mark) (no_more c h (wait_at c.waits k).mark))) in
    λ j. record { now = a j; waits = b j; sets = c.sets }

pub link_held : (c : Core) (k : ℕ) → IsHeld c → k < length c.sets → IsHeld (with_links c (c.links ++ k ∷ []))
link_held c k h l =
    let len = length_push c.links k in
    record {
      rising = h.rising;
      room = omega (arith, len, h.room);
      marks = h.marks;
      order = h.order;
      links =
          λ i m.
          elim (cases_lt i (length c.links)) [
            | inl x ↦ subst (λ n. n < length c.sets) (sym (get_or_append_left c.links (k ∷ []) 0 i x)) (h.links i x)
            | inr x ↦ subst (λ n. n < length c.sets) (sym (get_or_push c.links k 0 i (omega (arith, x, m, len)))) l
          ];
      falls = h.falls;
      needs = h.needs;
      cuts = h.cuts;
      grows = h.grows;
      below = λ j i x y. subst (λ b. b < (wait_at c.waits j).sets) (sym (get_or_append_left c.links (k ∷ []) 0 i (omega (arith, y, no_more c h (wait_at c.waits j).mark, h.room)))) (h.below j i x y);
      classed = h.classed;
    }

pub linked_held : (c : Core) (ls : List ℕ) (k : ℕ) → IsHeld c → ls ≡ take (length c.book.now) c.links ++ k ∷ [] → k < length c.sets → IsHeld (with_links c ls)
linked_held c ls k h e l = subst (λ ms. IsHeld (with_links c ms)) (sym e) (link_held (with_links c (take (length c.book.now) c.links)) k (links_held c h) l)

pub link_shown : (c : Core) (k : ℕ) → IsHeld c → shown_of (with_links c (c.links ++ k ∷ [])) ≡ shown_of c
link_shown c k h =
    let ls = c.links ++ k ∷ [] in
    let a : entries c.sets ls c.book.now ≡ entries c.sets c.links c.book.now = entries_more c.sets c.links (k ∷ []) c.book.now h.room in
    let b : map (waiting c.book ls c.sets) c.waits ≡ map (waiting c.book c.links c.sets) c.waits =
    map_agrees (waiting c.book ls c.sets) (waiting c.book c.links c.sets) c.waits
    (λ i l. ap (λ es. with_all (set_at c.sets (wait_at c.waits i).needs) es (wait_at c.waits i).added) (entries_more c.sets c.links (k ∷ []) (state c.book (wait_at c.waits i).mark) (omega (arith, no_more c h (wait_at c.waits i).mark, h.room)))) in
    λ j. record { now = a j; waits = b j; sets = c.sets }

-- a change of the book
pub changed_held : (c : Core) (xs : List Item) → IsHeld c → length c.book.now ≤ length xs → length xs ≤ length c.links → IsHeld (with_book c (changed c.book xs))
changed_held c xs h l r =
    record {
      rising = rises_changed c.book xs l h.rising;
      room = r;
      marks = λ k m. omega (arith, h.marks k m, length_push c.book.past c.book.now);
      order = h.order;
      links = h.links;
      falls = h.falls;
      needs = h.needs;
      cuts = h.cuts;
      grows = h.grows;
      below = λ k i x y. let e = ap length (state_changed c.book xs (wait_at c.waits k).mark (h.marks k x)) in h.below k i x (omega (arith, y, e));
      classed = h.classed;
    }

pub changed_shown : (c : Core) (xs : List Item) (es : List Placed) → IsHeld c → entries c.sets c.links xs ≡ es → shown_of (with_book c (changed c.book xs)) ≡ moved (shown_of c) es
changed_shown c xs es h e =
    let b : map (waiting (changed c.book xs) c.links c.sets) c.waits ≡ map (waiting c.book c.links c.sets) c.waits =
    map_agrees (waiting (changed c.book xs) c.links c.sets) (waiting c.book c.links c.sets) c.waits
    (λ i l. ap (λ ys. with_all (set_at c.sets (wait_at c.waits i).needs) (entries c.sets c.links ys) (wait_at c.waits i).added) (state_changed c.book xs (wait_at c.waits i).mark (h.marks i l))) in
    λ j. record { now = e j; waits = b j; sets = c.sets }

pub killed_core : (c : Core) (i : ℕ) → IsHeld c → IsHeld (with_book c (book_killed c.book i)) × (shown_of (with_book c (book_killed c.book i)) ≡ killed (shown_of c) i)
killed_core c i h =
    let xs = with_life false c.book.now i in
    let n : length xs ≡ length c.book.now = length-set c.book.now i _ in
    (changed_held c xs h (omega (arith, n)) (omega (arith, n, h.room)), changed_shown c xs (dead (entries c.sets c.links c.book.now) i) h (entries_dead c.sets c.links c.book.now i h.room))

pub counted_core : (c : Core) (i : ℕ) → IsHeld c → IsHeld (with_book c (book_counted c.book i)) × (shown_of (with_book c (book_counted c.book i)) ≡ counted (shown_of c) i)
counted_core c i h =
    let xs = with_count (suc (item_at c.book.now i).count) c.book.now i in
    let n : length xs ≡ length c.book.now = length-set c.book.now i _ in
    (changed_held c xs h (omega (arith, n)) (omega (arith, n, h.room)), changed_shown c xs (raised (entries c.sets c.links c.book.now) i) h (entries_raised c.sets c.links c.book.now i h.room))

-- a formula: the link stands at the end of the entries already
pub added_core : (c : Core) (ls : List ℕ) (n : New) (k : ℕ) → IsHeld c → ls ≡ take (length c.book.now) c.links ++ k ∷ [] → k < length c.sets
    → IsHeld (with_book (with_links c ls) (book_added c.book n.formula n.class)) × (shown_of (with_book (with_links c ls) (book_added c.book n.formula n.class)) ≡ added (shown_of c) n k)
added_core c ls n k h e l =
    subst (λ ms. IsHeld (with_book (with_links c ms) (book_added c.book n.formula n.class)) × (shown_of (with_book (with_links c ms) (book_added c.book n.formula n.class)) ≡ added (shown_of c) n k)) (sym e)
    (go (stands_in xs n.formula) refl)
  where
    xs : List Item
    xs = c.book.now

    cut : List ℕ
    cut = take (length xs) c.links

    d : Core
    d = with_links c cut

    f : Core
    f = with_links c (cut ++ k ∷ [])

    hd : IsHeld d
    hd = links_held c h

    hf : IsHeld f
    hf = link_held d k hd l

    len : length cut ≡ length xs
    len = length-take-le (length xs) c.links h.room

    shows : shown_of f ≡ shown_of c
    shows = link_shown d k hd ∙ links_shown c h

    there : stands (entries c.sets c.links xs) n.formula ≡ stands_in xs n.formula
    there = entries_stands c.sets c.links xs n.formula h.room

    book_by : Bool → Seen
    book_by b = elim b [ true ↦ c.book | false ↦ changed c.book (xs ++ fresh_item n.formula n.class ∷ []) ]

    shown_by : Bool → Shown
    shown_by b = moved (shown_of c) (elim b [ true ↦ entries c.sets c.links xs | false ↦ entries c.sets c.links xs ++ fresh (set_at c.sets k) n ∷ [] ])

    Goal : Bool → Bool → Type 0
    Goal a b = IsHeld (with_book f (book_by a)) × (shown_of (with_book f (book_by a)) ≡ shown_by b)

    old : Goal true true
    old = (hf, shows)

    more : length (xs ++ fresh_item n.formula n.class ∷ []) ≡ length xs + 1
    more = length_push xs (fresh_item n.formula n.class)

    new : Goal false false
    new = (
      changed_held f (xs ++ fresh_item n.formula n.class ∷ []) hf (omega (arith, more)) (omega (arith, more, len, length_push cut k)),
      changed_shown f (xs ++ fresh_item n.formula n.class ∷ []) (entries c.sets cut xs ++ fresh (set_at c.sets k) n ∷ []) hf (entries_push c.sets cut k xs (fresh_item n.formula n.class) (sym len))
          ∙ ap (λ s. moved s (entries c.sets cut xs ++ fresh (set_at c.sets k) n ∷ [])) shows
          ∙ ap (λ es. moved (shown_of c) (es ++ fresh (set_at c.sets k) n ∷ [])) (entries_take c.sets c.links (length xs) xs (omega arith)),
    )

    go : (b : Bool) → stands_in xs n.formula ≡ b → Goal (stands_in xs n.formula) (stands (entries c.sets c.links xs) n.formula)
    go true q = subst (λ b. Goal b (stands (entries c.sets c.links xs) n.formula)) (sym q) (subst (λ b. Goal true b) (sym (there ∙ q)) old)
    go false q = subst (λ b. Goal b (stands (entries c.sets c.links xs) n.formula)) (sym q) (subst (λ b. Goal false b) (sym (there ∙ q)) new)

-- a set more
pub set_held : (c : Core) (ks : List ℕ) → IsHeld c → Falls ks → IsHeld (with_sets c (c.sets ++ ks ∷ []))
set_held c ks h f =
    let len = length_push c.sets ks in
    record {
      rising = h.rising;
      room = h.room;
      marks = h.marks;
      order = h.order;
      links = λ i l. omega (arith, h.links i l, len);
      falls =
          λ i m.
          elim (cases_lt i (length c.sets)) [
            | inl x ↦ subst Falls (sym (get_or_append_left c.sets (ks ∷ []) [] i x)) (h.falls i x)
            | inr x ↦ subst Falls (sym (get_or_push c.sets ks [] i (omega (arith, x, m, len)))) f
          ];
      needs = h.needs;
      cuts = λ k l. omega (arith, h.cuts k l, len);
      grows = h.grows;
      below = h.below;
      classed = h.classed;
    }

pub set_shown : (c : Core) (ks : List ℕ) → IsHeld c → shown_of (with_sets c (c.sets ++ ks ∷ [])) ≡ kept_set (shown_of c) ks
set_shown c ks h =
    let ss = c.sets ++ ks ∷ [] in
    let at : (xs : List Item) → length xs ≤ length c.links → entries ss c.links xs ≡ entries c.sets c.links xs = λ xs r. entries_sets c.sets (ks ∷ []) c.links xs (λ i l. h.links i (omega (arith, l, r))) in
    let b : map (waiting c.book c.links ss) c.waits ≡ map (waiting c.book c.links c.sets) c.waits =
    map_agrees (waiting c.book c.links ss) (waiting c.book c.links c.sets) c.waits
    (λ i l.
    let m = (wait_at c.waits i).mark in
    let e : set_at ss (wait_at c.waits i).needs ≡ set_at c.sets (wait_at c.waits i).needs = get_or_append_left c.sets (ks ∷ []) [] (wait_at c.waits i).needs (omega (arith, h.needs i l, h.cuts i l)) in
    let f : entries ss c.links (state c.book m) ≡ entries c.sets c.links (state c.book m) = at (state c.book m) (omega (arith, no_more c h m, h.room)) in
    λ j. with_all (e j) (f j) (wait_at c.waits i).added) in
    λ j. record { now = at c.book.now h.room j; waits = b j; sets = ss }

-- a branch that waits more
pub wait_core : (c : Core) (ns : List New) (k : ℕ) → IsHeld c → k < length c.sets → AreClassed ns
    → IsHeld (with_waits c (c.waits ++ record { mark = length c.book.past; added = ns; needs = k; sets = length c.sets } ∷ []))
    × (shown_of (with_waits c (c.waits ++ record { mark = length c.book.past; added = ns; needs = k; sets = length c.sets } ∷ [])) ≡ put_off (shown_of c) ns k)
wait_core c ns k h l a = (
  record { rising = h.rising; room = h.room; marks = marks; order = order; links = h.links; falls = h.falls; needs = needs; cuts = cuts; grows = grows; below = below; classed = classed },
  ap (λ us. record { now = entries c.sets c.links c.book.now; waits = us; sets = c.sets }) shows,
)
  where
    p : ℕ
    p = length c.book.past

    n : ℕ
    n = length c.sets

    w : Wait
    w = record { mark = p; added = ns; needs = k; sets = n }

    ws : List Wait
    ws = c.waits ++ w ∷ []

    len : length ws ≡ length c.waits + 1
    len = length_push c.waits w

    old : (i : ℕ) → i < length c.waits → wait_at ws i ≡ wait_at c.waits i
    old i m = get_or_append_left c.waits (w ∷ []) no_wait i m

    new : (i : ℕ) → i < length ws → length c.waits ≤ i → wait_at ws i ≡ w
    new i m o = get_or_push c.waits w no_wait i (omega (arith, m, o, len))

    marks : (i : ℕ) → i < length ws → (wait_at ws i).mark ≤ p
    marks i m = elim (cases_lt i (length c.waits)) [
      | inl x ↦ subst (λ (v : Wait). v.mark ≤ p) (sym (old i x)) (h.marks i x)
      | inr x ↦ subst (λ (v : Wait). v.mark ≤ p) (sym (new i m x)) (omega arith)
    ]

    needs : (i : ℕ) → i < length ws → (wait_at ws i).needs < (wait_at ws i).sets
    needs i m = elim (cases_lt i (length c.waits)) [
      | inl x ↦ subst (λ (v : Wait). v.needs < v.sets) (sym (old i x)) (h.needs i x)
      | inr x ↦ subst (λ (v : Wait). v.needs < v.sets) (sym (new i m x)) l
    ]

    cuts : (i : ℕ) → i < length ws → (wait_at ws i).sets ≤ n
    cuts i m = elim (cases_lt i (length c.waits)) [
      | inl x ↦ subst (λ (v : Wait). v.sets ≤ n) (sym (old i x)) (h.cuts i x)
      | inr x ↦ subst (λ (v : Wait). v.sets ≤ n) (sym (new i m x)) (omega arith)
    ]

    classed : (i : ℕ) → i < length ws → AreClassed (wait_at ws i).added
    classed i m = elim (cases_lt i (length c.waits)) [
      | inl x ↦ subst (λ (v : Wait). AreClassed v.added) (sym (old i x)) (h.classed i x)
      | inr x ↦ subst (λ (v : Wait). AreClassed v.added) (sym (new i m x)) a
    ]

    below : (j i : ℕ) → j < length ws → i < length (state c.book (wait_at ws j).mark) → get_or c.links i 0 < (wait_at ws j).sets
    below j i m = elim (cases_lt j (length c.waits)) [
      | inl x ↦ subst (λ (v : Wait). i < length (state c.book v.mark) → get_or c.links i 0 < v.sets) (sym (old j x)) (h.below j i x)
      | inr x ↦ subst (λ (v : Wait). i < length (state c.book v.mark) → get_or c.links i 0 < v.sets) (sym (new j m x)) (λ y. h.links i (omega (arith, y, no_more c h p, h.room)))
    ]

    order : (i j : ℕ) → i ≤ j → j < length ws → (wait_at ws i).mark ≤ (wait_at ws j).mark
    order i j m o = elim (cases_lt j (length c.waits)) [
      | inl x ↦
          let e = ap (λ (v : Wait). v.mark) (old i (omega (arith, m, x))) in
          let f = ap (λ (v : Wait). v.mark) (old j x) in
          omega (arith, e, f, h.order i j m x)
      | inr x ↦
          let f = ap (λ (v : Wait). v.mark) (new j o x) in
          omega (arith, f, marks i (omega (arith, m, o)))
    ]

    grows : (i j : ℕ) → i ≤ j → j < length ws → (wait_at ws i).sets ≤ (wait_at ws j).sets
    grows i j m o = elim (cases_lt j (length c.waits)) [
      | inl x ↦
          let e = ap (λ (v : Wait). v.sets) (old i (omega (arith, m, x))) in
          let f = ap (λ (v : Wait). v.sets) (old j x) in
          omega (arith, e, f, h.grows i j m x)
      | inr x ↦
          let f = ap (λ (v : Wait). v.sets) (new j o x) in
          omega (arith, f, cuts i (omega (arith, m, o)))
    ]

    shows : map (waiting c.book c.links c.sets) ws ≡ map (waiting c.book c.links c.sets) c.waits ++ with_all (set_at c.sets k) (entries c.sets c.links c.book.now) ns ∷ []
    shows = map-append (waiting c.book c.links c.sets) c.waits (w ∷ []) ∙ ap (λ xs. map (waiting c.book c.links c.sets) c.waits ++ with_all (set_at c.sets k) (entries c.sets c.links xs) ns ∷ []) (state_now c.book p (omega arith))

-- the parts with what the k-th branch that waits has, and those before it
abbrev pub back_at : Core → ℕ → Core
back_at c k = taken_back (with_waits c (take k c.waits)) (wait_at c.waits k).mark (wait_at c.waits k).sets

pub back_held : (c : Core) (k : ℕ) → IsHeld c → k < length c.waits → IsHeld (back_at c k)
back_held c k h l =
    record {
      rising = rises_undone c.book m (h.marks k l) h.rising;
      room = omega (arith, lenl);
      marks = λ i x. subst (λ (v : Wait). v.mark ≤ length (undone c.book m).past) (sym (at i x)) (omega (arith, h.order i k (before i x) l, past_undone c.book m (h.marks k l)));
      order = λ i j x y. let e = ap (λ (v : Wait). v.mark) (at i (omega (arith, x, y))) in let f = ap (λ (v : Wait). v.mark) (at j y) in omega (arith, e, f, h.order i j x (within j y));
      links = λ i x. subst (λ b. b < length (take n c.sets)) (sym (get_or-take o c.links i 0 (omega (arith, x, lenl)))) (omega (arith, lens, h.below k i l (omega (arith, x, lenl))));
      falls = λ i x. subst Falls (sym (get_or-take n c.sets i [] (omega (arith, x, lens)))) (h.falls i (omega (arith, x, lens, h.cuts k l)));
      needs = λ i x. subst (λ (v : Wait). v.needs < v.sets) (sym (at i x)) (h.needs i (within i x));
      cuts = λ i x. subst (λ (v : Wait). v.sets ≤ length (take n c.sets)) (sym (at i x)) (omega (arith, lens, h.grows i k (before i x) l));
      grows = λ i j x y. let e = ap (λ (v : Wait). v.sets) (at i (omega (arith, x, y))) in let f = ap (λ (v : Wait). v.sets) (at j y) in omega (arith, e, f, h.grows i j x (within j y));
      below =
          λ j i x.
          subst (λ (v : Wait). i < length (state (undone c.book m) v.mark) → get_or (take o c.links) i 0 < v.sets) (sym (at j x))
          (λ y.
          let q = (wait_at c.waits j).mark in
          let e = ap length (state_undone c.book m q (h.order j k (before j x) l) (h.marks k l)) in
          let z : i < length (state c.book q) = omega (arith, y, e) in
          subst (λ b. b < (wait_at c.waits j).sets) (sym (get_or-take o c.links i 0 (omega (arith, z, h.rising q m (h.order j k (before j x) l))))) (h.below j i (within j x) z));
      classed = λ i x. subst (λ (v : Wait). AreClassed v.added) (sym (at i x)) (h.classed i (within i x));
    }
  where
    m : ℕ
    m = (wait_at c.waits k).mark

    n : ℕ
    n = (wait_at c.waits k).sets

    o : ℕ
    o = length (undone c.book m).now

    lenl : length (take o c.links) ≡ o
    lenl = length-take-le o c.links (omega (arith, no_more c h m, h.room))

    lens : length (take n c.sets) ≡ n
    lens = length-take-le n c.sets (h.cuts k l)

    len : length (take k c.waits) ≡ k
    len = length-take-le k c.waits (omega (arith, l))

    before : (i : ℕ) → i < length (take k c.waits) → i ≤ k
    before i x = omega (arith, x, len)

    within : (i : ℕ) → i < length (take k c.waits) → i < length c.waits
    within i x = omega (arith, x, len, l)

    at : (i : ℕ) → i < length (take k c.waits) → wait_at (take k c.waits) i ≡ wait_at c.waits i
    at i x = get_or-take k c.waits i no_wait (omega (arith, x, len))

-- what the branch that waits needs is among the sets
pub back_needs : (c : Core) (k : ℕ) → IsHeld c → k < length c.waits → (wait_at c.waits k).needs < length (back_at c k).sets
back_needs c k h l = omega (arith, h.needs k l, length-take-le (wait_at c.waits k).sets c.sets (h.cuts k l))

pub back_shown : (c : Core) (k : ℕ) → IsHeld c → k < length c.waits → all_added (shown_of (back_at c k)) (wait_at c.waits k).added (wait_at c.waits k).needs ≡ reopened (shown_of c) k (wait_at c.waits k).sets
back_shown c k h l = λ j. record { now = now j; waits = waits j; sets = take n c.sets }
  where
    m : ℕ
    m = (wait_at c.waits k).mark

    n : ℕ
    n = (wait_at c.waits k).sets

    b : Seen
    b = undone c.book m

    o : ℕ
    o = length b.now

    len : length (take k c.waits) ≡ k
    len = length-take-le k c.waits (omega (arith, l))

    -- what waits at i, from the sets and the links that are left
    cut : (i : ℕ) → i ≤ k → (xs : List Item) → xs ≡ state c.book (wait_at c.waits i).mark
        → with_all (set_at (take n c.sets) (wait_at c.waits i).needs) (entries (take n c.sets) (take o c.links) xs) (wait_at c.waits i).added ≡ waiting c.book c.links c.sets (wait_at c.waits i)
    cut i r xs g =
        let q = (wait_at c.waits i).mark in
        let x : i < length c.waits = omega (arith, r, l) in
        let e : set_at (take n c.sets) (wait_at c.waits i).needs ≡ set_at c.sets (wait_at c.waits i).needs = get_or-take n c.sets (wait_at c.waits i).needs [] (omega (arith, h.needs i x, h.grows i k r l)) in
        let f : entries (take n c.sets) (take o c.links) (state c.book q) ≡ entries c.sets c.links (state c.book q) =
        entries_back c.sets c.links o n (state c.book q) (h.rising q m (h.order i k r l)) (λ y z. omega (arith, h.below i y x z, h.grows i k r l)) in
        ap (λ ys. with_all (set_at (take n c.sets) (wait_at c.waits i).needs) (entries (take n c.sets) (take o c.links) ys) (wait_at c.waits i).added) g ∙ (λ j. with_all (e j) (f j) (wait_at c.waits i).added)

    now : with_all (set_at (take n c.sets) (wait_at c.waits k).needs) (entries (take n c.sets) (take o c.links) b.now) (wait_at c.waits k).added ≡ get_or (map (waiting c.book c.links c.sets) c.waits) k []
    now = cut k (omega arith) b.now refl ∙ sym (get_or-map (waiting c.book c.links c.sets) c.waits k no_wait [] l)

    same : (i : ℕ) → i < length (take k c.waits) → waiting b (take o c.links) (take n c.sets) (wait_at (take k c.waits) i) ≡ waiting c.book c.links c.sets (wait_at (take k c.waits) i)
    same i x =
        let r : i ≤ k = omega (arith, x, len) in
        subst (λ v. waiting b (take o c.links) (take n c.sets) v ≡ waiting c.book c.links c.sets v) (sym (get_or-take k c.waits i no_wait (omega (arith, x, len))))
        (cut i r (state b (wait_at c.waits i).mark) (state_undone c.book m (wait_at c.waits i).mark (h.order i k r l) (h.marks k l)))

    waits : map (waiting b (take o c.links) (take n c.sets)) (take k c.waits) ≡ take k (map (waiting c.book c.links c.sets) c.waits)
    waits = map_agrees (waiting b (take o c.links) (take n c.sets)) (waiting c.book c.links c.sets) (take k c.waits) same ∙ sym (take-map (waiting c.book c.links c.sets) k c.waits)

-- the parts d before what the branch that waited brings
abbrev pub IsBack : Core → ℕ → Core → Wait → Type 0
IsBack c k d w =
    IsHeld d × (w.needs < length d.sets) × AreClassed w.added × (all_added (shown_of d) w.added w.needs ≡ reopened (shown_of c) k w.sets)

pub back_goal : (c d : Core) (k : ℕ) (ws : List Wait) (w : Wait) → IsHeld c → k < length c.waits → ws ≡ take k c.waits → w ≡ wait_at c.waits k → d ≡ taken_back (with_waits c ws) w.mark w.sets → IsBack c k d w
back_goal c d k ws w h l e f g =
    subst (λ x. IsBack c k x w) (sym g)
    (subst (λ us. IsBack c k (taken_back (with_waits c us) w.mark w.sets) w) (sym e)
    (subst (λ (v : Wait). IsBack c k (taken_back (with_waits c (take k c.waits)) v.mark v.sets) v) (sym f)
    (back_held c k h l, back_needs c k h l, h.classed k l, back_shown c k h l)))

pub back_mark : (c : Core) (k : ℕ) (w : Wait) → IsHeld c → k < length c.waits → w ≡ wait_at c.waits k → w.mark ≤ length c.book.past
back_mark c k w h l f = subst (λ (v : Wait). v.mark ≤ length c.book.past) (sym f) (h.marks k l)
