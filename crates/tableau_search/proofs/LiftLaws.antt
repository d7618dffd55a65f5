-- Entries by numbers against branches of trees.
use Rattle.std.proofs.Common.{◌≡◌, ℕ, zero, suc, ◌<◌, ◌≤◌, Bool, true, false, not, List, [], ◌∷◌, ◌++◌, length, get_or, take, map, refl, ap, sym, ◌∙◌, arith, inl, inr, eqb, eq-eqb}
use Rattle.std.proofs.lemmas.List.{get_or_append_left, map-append, length-append, length-map, get_or-map}
use Rattle.std.proofs.lemmas.Bool.{cases_eq, ne_eqb, false≢true}
use Rattle.core_expr.specs.Tree.{Tree, true_}
use Rattle.core_expr.specs.Terms.{same}
use Rattle.core_expr.proofs.Equal.{same-true, same-refl}
use Rattle.term_bank.specs.Banks.{tree_at, IsDistinct, Extends}
use Rattle.search_definition.specs.Terms.{if_so, either}
use Rattle.search_definition.specs.Branches.{Branch, has, add, add_all, news, used}
use Rattle.search_definition.specs.Rules.{Result, rises}
use Rattle.search_definition.specs.Needs.{union, needs_at as branch_needs, needs_of, with_news}
use Rattle.search_definition.specs.Search.{lacking}
use Rattle.search_definition.specs.Watches.{no_entry, entry_at}
use Rattle.search_trace.specs.Traces.{AreUnder, AddedUnder, added_trees}
use Rattle.search_loop.specs.Stacks.{Tracked}
use Rattle.search_loop.specs.Turns.{side_of}
use Rattle.branch_state.specs.declared.parts.New.{New}
use Rattle.branch_state.specs.Shown.{Placed, no_place, placed_at, stands, fresh, with_new, with_all, dead, raised, used_at, needs_at}
use Rattle.tableau_search.specs.Entries.{entry_of, branch_of, needs_in, tracked, new_tree, new_trees, AreKnown, EachKnown, NewsUnder, needs_of_all}
use Rattle.tableau_search.specs.Boards.{added_by}

same_number : (ts : List Tree) → IsDistinct ts → (i j : ℕ) → i < length ts → j < length ts → same (tree_at ts i) (tree_at ts j) ≡ eqb i j
same_number ts d i j l m =
    elim (cases_eq i j) [
      | inl e ↦ ap (λ k. same (tree_at ts i) (tree_at ts k)) (sym e) ∙ same-refl (tree_at ts i) ∙ sym (eq-eqb i j e)
      | inr n ↦ go n (same (tree_at ts i) (tree_at ts j)) refl ∙ sym (ne_eqb i j n)
    ]
  where
    go : (i ≡ j → ⊥) → (b : Bool) → same (tree_at ts i) (tree_at ts j) ≡ b → same (tree_at ts i) (tree_at ts j) ≡ false
    go n true e = absurd (n (d i j l m (same-true (tree_at ts i) (tree_at ts j) e)))
    go n false e = e

pub lift_has : (ts : List Tree) → IsDistinct ts → (es : List Placed) (f : ℕ) → AreKnown (length ts) es → f < length ts → has (branch_of ts es) (tree_at ts f) ≡ stands es f
lift_has ts d [] f a l = refl
lift_has ts d (e ∷ es) f a l =
    let p : same (tree_at ts e.formula) (tree_at ts f) ≡ eqb e.formula f = same_number ts d e.formula f a.0 l in
    let q : has (branch_of ts es) (tree_at ts f) ≡ stands es f = lift_has ts d es f a.1 l in
    (λ i. either (p i) (q i)) ∙ go (eqb e.formula f)
  where
    go : (b : Bool) → either b (stands es f) ≡ elim b [ true ↦ true | false ↦ stands es f ]
    go true = refl
    go false = refl

lift_needs_at : (ts : List Tree) → IsDistinct ts → (es : List Placed) (f : ℕ) → AreKnown (length ts) es → f < length ts → branch_needs (branch_of ts es) (needs_in es) (tree_at ts f) ≡ needs_at es f
lift_needs_at ts d [] f a l = refl
lift_needs_at ts d (e ∷ es) f a l =
    let p : same (tree_at ts e.formula) (tree_at ts f) ≡ eqb e.formula f = same_number ts d e.formula f a.0 l in
    let q : branch_needs (branch_of ts es) (needs_in es) (tree_at ts f) ≡ needs_at es f = lift_needs_at ts d es f a.1 l in
    (λ i. if_so (p i) e.needs (q i)) ∙ go (eqb e.formula f)
  where
    go : (b : Bool) → if_so b e.needs (needs_at es f) ≡ elim b [ true ↦ e.needs | false ↦ needs_at es f ]
    go true = refl
    go false = refl

pub lift_needs : (ts : List Tree) → IsDistinct ts → (es : List Placed) (fs : List ℕ) → AreKnown (length ts) es → AreUnder (length ts) fs → needs_of (branch_of ts es) (needs_in es) (map (tree_at ts) fs) ≡ needs_of_all es fs
lift_needs ts d es [] a l = refl
lift_needs ts d es (f ∷ fs) a l =
    let p : branch_needs (branch_of ts es) (needs_in es) (tree_at ts f) ≡ needs_at es f = lift_needs_at ts d es f a l.0 in
    let q : needs_of (branch_of ts es) (needs_in es) (map (tree_at ts) fs) ≡ needs_of_all es fs = lift_needs ts d es fs a l.1 in
    λ i. union (p i) (q i)

-- numbers that are known

known_push : (n : ℕ) (es : List Placed) (e : Placed) → AreKnown n es → e.formula < n → AreKnown n (es ++ e ∷ [])
known_push n [] e a l = (l, tt)
known_push n (x ∷ es) e a l = (a.0, known_push n es e a.1 l)

pub known_new : (n : ℕ) (ks : List ℕ) (es : List Placed) (m : New) → AreKnown n es → m.formula < n → AreKnown n (with_new ks es m)
known_new n ks es m a l = go (stands es m.formula)
  where
    go : (b : Bool) → AreKnown n (elim b [ true ↦ es | false ↦ es ++ fresh ks m ∷ [] ])
    go true = a
    go false = known_push n es (fresh ks m) a l

pub known_all : (n : ℕ) (ks : List ℕ) (es : List Placed) (ms : List New) → AreKnown n es → NewsUnder n ms → AreKnown n (with_all ks es ms)
known_all n ks es [] a l = a
known_all n ks es (m ∷ ms) a l = known_all n ks (with_new ks es m) ms (known_new n ks es m a l.0) l.1

known_dead : (n : ℕ) (es : List Placed) (i : ℕ) → AreKnown n es → AreKnown n (dead es i)
known_dead n [] i a = tt
known_dead n (e ∷ es) zero a = a
known_dead n (e ∷ es) (suc i) a = (a.0, known_dead n es i a.1)

known_raised : (n : ℕ) (es : List Placed) (i : ℕ) → AreKnown n es → AreKnown n (raised es i)
known_raised n [] i a = tt
known_raised n (e ∷ es) zero a = a
known_raised n (e ∷ es) (suc i) a = (a.0, known_raised n es i a.1)

pub known_used : (n : ℕ) (stays rises : Bool) (es : List Placed) (i : ℕ) → AreKnown n es → AreKnown n (used_at stays rises es i)
known_used n true true es i a = known_raised n es i a
known_used n true false es i a = a
known_used n false true es i a = known_raised n (dead es i) i (known_dead n es i a)
known_used n false false es i a = known_dead n es i a

pub each_push : (n : ℕ) (ess : List (List Placed)) (es : List Placed) → EachKnown n ess → AreKnown n es → EachKnown n (ess ++ es ∷ [])
each_push n [] es a l = (l, tt)
each_push n (xs ∷ ess) es a l = (a.0, each_push n ess es a.1 l)

pub each_at : (n : ℕ) (ess : List (List Placed)) (k : ℕ) → EachKnown n ess → AreKnown n (get_or ess k [])
each_at n [] k a = tt
each_at n (es ∷ ess) zero a = a.0
each_at n (es ∷ ess) (suc k) a = each_at n ess k a.1

pub each_take : (n : ℕ) (ess : List (List Placed)) (k : ℕ) → EachKnown n ess → EachKnown n (take k ess)
each_take n ess zero a = tt
each_take n [] (suc k) a = tt
each_take n (es ∷ ess) (suc k) a = (a.0, each_take n ess k a.1)

pub known_higher : (m n : ℕ) (es : List Placed) → m ≤ n → AreKnown m es → AreKnown n es
known_higher m n [] l a = tt
known_higher m n (e ∷ es) l a = (omega (arith, l, a.0), known_higher m n es l a.1)

pub each_higher : (m n : ℕ) (ess : List (List Placed)) → m ≤ n → EachKnown m ess → EachKnown n ess
each_higher m n [] l a = tt
each_higher m n (es ∷ ess) l a = (known_higher m n es l a.0, each_higher m n ess l a.1)

pub added_under : (n : ℕ) (es : List Placed) (ms : List New) → NewsUnder n ms → AddedUnder n (map (added_by es) ms)
added_under n es [] a = tt
added_under n es (m ∷ ms) a = (a.0, added_under n es ms a.1)

-- adding

pub lift_new : (ts : List Tree) → IsDistinct ts → (ks : List ℕ) (es : List Placed) (m : New) → AreKnown (length ts) es → m.formula < length ts → add (branch_of ts es) (new_tree ts m) ≡ branch_of ts (with_new ks es m)
lift_new ts d ks es m a l = ap chosen (lift_has ts d es m.formula a l) ∙ go (stands es m.formula)
  where
    chosen : Bool → Branch
    chosen b = if_so b (branch_of ts es) (branch_of ts es ++ entry_of ts (fresh ks m) ∷ [])

    go : (b : Bool) → chosen b ≡ branch_of ts (elim b [ true ↦ es | false ↦ es ++ fresh ks m ∷ [] ])
    go true = refl
    go false = sym (map-append (entry_of ts) es (fresh ks m ∷ []))

pub lift_all : (ts : List Tree) → IsDistinct ts → (ks : List ℕ) (es : List Placed) (ms : List New) → AreKnown (length ts) es → NewsUnder (length ts) ms → add_all (branch_of ts es) (new_trees ts ms) ≡ branch_of ts (with_all ks es ms)
lift_all ts d ks es [] a l = refl
lift_all ts d ks es (m ∷ ms) a l =
    ap (λ b. add_all b (new_trees ts ms)) (lift_new ts d ks es m a l.0) ∙ lift_all ts d ks (with_new ks es m) ms (known_new (length ts) ks es m a l.0) l.1

-- the needs of what is added

needs_new : (ks : List ℕ) (es : List Placed) (m : New) (ns : List Bool) → with_news (needs_in es) ks (not (stands es m.formula) ∷ ns) ≡ with_news (needs_in (with_new ks es m)) ks ns
needs_new ks es m ns = go (stands es m.formula)
  where
    go : (b : Bool) → with_news (needs_in es) ks (not b ∷ ns) ≡ with_news (needs_in (elim b [ true ↦ es | false ↦ es ++ fresh ks m ∷ [] ])) ks ns
    go true = refl
    go false = ap (λ us. with_news us ks ns) (sym (map-append (λ e. e.needs) es (fresh ks m ∷ [])))

pub lift_news : (ts : List Tree) → IsDistinct ts → (ks : List ℕ) (es : List Placed) (ms : List New) → AreKnown (length ts) es → NewsUnder (length ts) ms → with_news (needs_in es) ks (news (branch_of ts es) (new_trees ts ms)) ≡ needs_in (with_all ks es ms)
lift_news ts d ks es [] a l = refl
lift_news ts d ks es (m ∷ ms) a l =
    let p : has (branch_of ts es) (new_tree ts m) ≡ stands es m.formula = lift_has ts d es m.formula a l.0 in
    let q : add (branch_of ts es) (new_tree ts m) ≡ branch_of ts (with_new ks es m) = lift_new ts d ks es m a l.0 in
    (λ i. with_news (needs_in es) ks (not (p i) ∷ news (q i) (new_trees ts ms)))
    ∙ needs_new ks es m (news (branch_of ts (with_new ks es m)) (new_trees ts ms))
    ∙ lift_news ts d ks (with_new ks es m) ms (known_new (length ts) ks es m a l.0) l.1

-- whether what is added is new

pub lift_lacking : (ts : List Tree) → IsDistinct ts → (es : List Placed) (ms : List New) → AreKnown (length ts) es → NewsUnder (length ts) ms → lacking (branch_of ts es) (new_trees ts ms) ≡ map (λ x. x.is_new) (map (added_by es) ms)
lift_lacking ts d es [] a l = refl
lift_lacking ts d es (m ∷ ms) a l =
    let p : has (branch_of ts es) (new_tree ts m) ≡ stands es m.formula = lift_has ts d es m.formula a l.0 in
    let q : lacking (branch_of ts es) (new_trees ts ms) ≡ map (λ x. x.is_new) (map (added_by es) ms) = lift_lacking ts d es ms a l.1 in
    λ i. not (p i) ∷ q i

pub lift_added : (ts : List Tree) (es : List Placed) (ms : List New) → added_trees ts (map (added_by es) ms) ≡ new_trees ts ms
lift_added ts es [] = refl
lift_added ts es (m ∷ ms) = ap (λ fs. new_tree ts m ∷ fs) (lift_added ts es ms)

-- a rule uses an entry

pub lift_used : (ts : List Tree) (stays rises : Bool) (es : List Placed) (i : ℕ) → (placed_at es i).live ≡ true → used stays rises (branch_of ts es) i ≡ branch_of ts (used_at stays rises es i)
lift_used ts stays rises [] i h = absurd (false≢true h)
lift_used ts true true (e ∷ es) zero h = ap (λ l. record { formula = tree_at ts e.formula; live = l; count = suc e.count } ∷ branch_of ts es) (sym h)
lift_used ts true false (e ∷ es) zero h = ap (λ l. record { formula = tree_at ts e.formula; live = l; count = e.count } ∷ branch_of ts es) (sym h)
lift_used ts false true (e ∷ es) zero h = refl
lift_used ts false false (e ∷ es) zero h = refl
lift_used ts true true (e ∷ es) (suc i) h = ap (λ b. entry_of ts e ∷ b) (lift_used ts true true es i h)
lift_used ts true false (e ∷ es) (suc i) h = ap (λ b. entry_of ts e ∷ b) (lift_used ts true false es i h)
lift_used ts false true (e ∷ es) (suc i) h = ap (λ b. entry_of ts e ∷ b) (lift_used ts false true es i h)
lift_used ts false false (e ∷ es) (suc i) h = ap (λ b. entry_of ts e ∷ b) (lift_used ts false false es i h)

needs_dead : (es : List Placed) (i : ℕ) → needs_in (dead es i) ≡ needs_in es
needs_dead [] i = refl
needs_dead (e ∷ es) zero = refl
needs_dead (e ∷ es) (suc i) = ap (λ us. e.needs ∷ us) (needs_dead es i)

needs_raised : (es : List Placed) (i : ℕ) → needs_in (raised es i) ≡ needs_in es
needs_raised [] i = refl
needs_raised (e ∷ es) zero = refl
needs_raised (e ∷ es) (suc i) = ap (λ us. e.needs ∷ us) (needs_raised es i)

needs_used : (stays rises : Bool) (es : List Placed) (i : ℕ) → needs_in (used_at stays rises es i) ≡ needs_in es
needs_used true true es i = needs_raised es i
needs_used true false es i = refl
needs_used false true es i = needs_raised (dead es i) i ∙ needs_dead es i
needs_used false false es i = needs_dead es i

-- a side of a rule
pub lift_side : (ts : List Tree) (live : Bool) (r : Result) (ks : List ℕ) (es : List Placed) (ms : List New) → IsDistinct ts → AreKnown (length ts) es → (placed_at es r.entry).live ≡ true → NewsUnder (length ts) ms
    → tracked ts (with_all ks (used_at live (rises r.step.rule) es r.entry) ms) ≡ side_of live r ks (tracked ts es) (new_trees ts ms)
lift_side ts live r ks es ms d a v l =
    let xs = used_at live (rises r.step.rule) es r.entry in
    let k : AreKnown (length ts) xs = known_used (length ts) live (rises r.step.rule) es r.entry a in
    let p : branch_of ts (with_all ks xs ms) ≡ add_all (branch_of ts xs) (new_trees ts ms) = sym (lift_all ts d ks xs ms k l) in
    let q : needs_in (with_all ks xs ms) ≡ with_news (needs_in xs) ks (news (branch_of ts xs) (new_trees ts ms)) = sym (lift_news ts d ks xs ms k l) in
    let u : branch_of ts xs ≡ used live (rises r.step.rule) (branch_of ts es) r.entry = sym (lift_used ts live (rises r.step.rule) es r.entry v) in
    let n : needs_in xs ≡ needs_in es = needs_used live (rises r.step.rule) es r.entry in
    let t : (b : Branch) (us : List (List ℕ)) → Tracked = λ b us. record { branch = add_all b (new_trees ts ms); needs = with_news us ks (news b (new_trees ts ms)) } in
    (λ i. record { branch = p i; needs = q i }) ∙ (λ i. t (u i) (n i))

dead_raised : (es : List Placed) (i : ℕ) → dead (raised es i) i ≡ raised (dead es i) i
dead_raised [] i = refl
dead_raised (e ∷ es) zero = refl
dead_raised (e ∷ es) (suc i) = ap (λ b. e ∷ b) (dead_raised es i)

dead_twice : (es : List Placed) (i : ℕ) → dead (dead es i) i ≡ dead es i
dead_twice [] i = refl
dead_twice (e ∷ es) zero = refl
dead_twice (e ∷ es) (suc i) = ap (λ b. e ∷ b) (dead_twice es i)

-- the second side's use first, and then the first side's, where the entry dies on the second side only if it dies on the first
pub used_twice : (s t rises : Bool) (es : List Placed) (i : ℕ) → (s ≡ true → t ≡ true) → used_at s false (used_at t rises es i) i ≡ used_at s rises es i
used_twice true true rises es i h = refl
used_twice true false rises es i h = absurd (false≢true (h refl))
used_twice false true true es i h = dead_raised es i
used_twice false true false es i h = refl
used_twice false false true es i h = dead_raised (dead es i) i ∙ ap (λ b. raised b i) (dead_twice es i)
used_twice false false false es i h = dead_twice es i

dead_length : (es : List Placed) (i : ℕ) → length (dead es i) ≡ length es
dead_length [] i = refl
dead_length (e ∷ es) zero = refl
dead_length (e ∷ es) (suc i) = ap suc (dead_length es i)

raised_length : (es : List Placed) (i : ℕ) → length (raised es i) ≡ length es
raised_length [] i = refl
raised_length (e ∷ es) zero = refl
raised_length (e ∷ es) (suc i) = ap suc (raised_length es i)

pub used_length : (stays rises : Bool) (es : List Placed) (i : ℕ) → length (used_at stays rises es i) ≡ length es
used_length true true es i = raised_length es i
used_length true false es i = refl
used_length false true es i = raised_length (dead es i) i ∙ dead_length es i
used_length false false es i = dead_length es i

-- formulas come

pub extends_length : (ts us : List Tree) → Extends ts us → length ts ≤ length us
extends_length ts us g = let e = ap length g.1 in omega (arith, e, length-append ts g.0)

pub tree_kept : (ts us : List Tree) (i : ℕ) → Extends ts us → i < length ts → tree_at us i ≡ tree_at ts i
tree_kept ts us i g l = ap (λ vs. tree_at vs i) g.1 ∙ get_or_append_left ts g.0 true_ i l

pub branch_kept : (ts us : List Tree) (es : List Placed) → Extends ts us → AreKnown (length ts) es → branch_of us es ≡ branch_of ts es
branch_kept ts us [] g a = refl
branch_kept ts us (e ∷ es) g a =
    let p : tree_at us e.formula ≡ tree_at ts e.formula = tree_kept ts us e.formula g a.0 in
    let q : branch_of us es ≡ branch_of ts es = branch_kept ts us es g a.1 in
    λ i. record { formula = p i; live = e.live; count = e.count } ∷ q i

-- entries of the branch

pub branch_length : (ts : List Tree) (es : List Placed) → length (branch_of ts es) ≡ length es
branch_length ts es = length-map es (entry_of ts)

pub branch_at : (ts : List Tree) (es : List Placed) (i : ℕ) → i < length es → entry_at (branch_of ts es) i ≡ entry_of ts (placed_at es i)
branch_at ts es i l = get_or-map (entry_of ts) es i no_place no_entry l

pub known_at : (n : ℕ) (es : List Placed) (i : ℕ) → AreKnown n es → i < length es → (placed_at es i).formula < n
known_at n [] i a l = absurd (omega (arith, l))
known_at n (e ∷ es) zero a l = a.0
known_at n (e ∷ es) (suc i) a l = known_at n es i a.1 (omega (arith, l))
