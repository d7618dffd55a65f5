-- What is kept of the branches, turn by turn.
use Rattle.std.proofs.Common.{◌≡◌, ℕ, ◌+◌, ◌<◌, Bool, true, false, inl, inr, List, [], ◌∷◌, ◌++◌, length, get_or, take, sym, ◌∙◌, arith, subst}
use Rattle.std.proofs.lemmas.Bool.{cases_lt}
use Rattle.std.proofs.lemmas.List.{get_or_append_left, get_or_push, length_push, get_or-take, length-take-le}
use Rattle.core_expr.specs.Tree.{Tree}
use Rattle.seq_calculus.specs.Calculus.{IsClosed, AllClosed}
use Rattle.term_bank.specs.Banks.{Extends}
use Rattle.search_definition.specs.Rules.{stays, stays_second, rises}
use Rattle.search_trace.specs.declared.turn.Used.{Used}
use Rattle.branch_state.specs.declared.parts.New.{New}
use Rattle.branch_state.specs.Shown.{Placed, Shown, placed_at, with_new, with_all, used_at, reopened}
use Rattle.tableau_search.specs.Entries.{new_tree, new_trees, AreKnown, EachKnown, NewsUnder}
use Rattle.tableau_search.specs.Memos.{Stays, IsMemo}
use Rattle.tableau_search.specs.Boards.{used_alone, used_both, second_used}
use Rattle.tableau_search.proofs.LiftLaws.{known_new, known_used, known_higher, each_at, used_twice, extends_length}

-- what stays

pub stays_same : (n c : ℕ) (saved : ℕ → List Placed → Type 0) → Stays n c saved saved
stays_same n c saved k es l a h = h

-- over two calls, formulas coming between them
pub stays_on : (ts us : List Tree) (c d : ℕ) (old mid new : ℕ → List Placed → Type 0) → Extends ts us → d ≡ c → Stays (length ts) c old mid → Stays (length us) d mid new → Stays (length ts) c old new
stays_on ts us c d old mid new g e f h k es l a x = h k es (omega (arith, l, e)) (known_higher (length ts) (length us) es (extends_length ts us g) a) (f k es l a x)

-- after a call that looked at the branch
pub memo_kept : (n : ℕ) (right right2 : List Placed → Type 0) (saved saved2 : ℕ → List Placed → Type 0) (c d : ℕ) (s : Shown) → IsMemo right saved c s → EachKnown n s.waits → right2 s.now → d ≡ c → Stays n c saved saved2 → IsMemo right2 saved2 d s
memo_kept n right right2 saved saved2 c d s m a r e h =
    record { now = r; waits = λ k l. h k (get_or s.waits k []) (omega (arith, l, m.count)) (each_at n s.waits k a) (m.waits k l); count = e ∙ m.count }

-- the laws for what is kept, for formulas one after the other
pub right_all : (right : List Placed → Type 0) (ts : List Tree) → ((es : List Placed) (ls : List ℕ) (m : New) → AreKnown (length ts) es → m.formula < length ts → IsClosed (new_tree ts m) → right es → right (with_new ls es m))
    → (ks : List ℕ) (es : List Placed) (ms : List New) → AreKnown (length ts) es → NewsUnder (length ts) ms → AllClosed (new_trees ts ms) → right es → right (with_all ks es ms)
right_all right ts law ks es [] a l h r = r
right_all right ts law ks es (m ∷ ms) a l h r =
    right_all right ts law ks (with_new ks es m) ms (known_new (length ts) ks es m a l.0) l.1 h.1 (law es ks m a l.0 h.0 r)

-- after a rule with one side
pub memo_alone : (right : List Placed → Type 0) (saved : ℕ → List Placed → Type 0) (c : ℕ) (ts : List Tree) (s : Shown) (u : Used) (ns : List New) (ks : List ℕ)
    → ((es : List Placed) (ls : List ℕ) (m : New) → AreKnown (length ts) es → m.formula < length ts → IsClosed (new_tree ts m) → right es → right (with_new ls es m)) → ((es : List Placed) (live more : Bool) (i : ℕ) → (placed_at es i).live ≡ true → right es → right (used_at live more es i))
    → AreKnown (length ts) s.now → (placed_at s.now u.entry).live ≡ true → NewsUnder (length ts) ns → AllClosed (new_trees ts ns) → IsMemo right saved c s → IsMemo right saved c (used_alone s u ns ks)
memo_alone right saved c ts s u ns ks added used a v l h m =
    record {
      now = right_all right ts added ks (used_at (stays u.rule) (rises u.rule) s.now u.entry) ns (known_used (length ts) (stays u.rule) (rises u.rule) s.now u.entry a) l h (used s.now (stays u.rule) (rises u.rule) u.entry v m.now);
      waits = m.waits;
      count = m.count;
    }

-- after a rule with two sides, where what is kept was put off before
pub memo_split : (right right2 : List Placed → Type 0) (saved saved2 : ℕ → List Placed → Type 0) (c d : ℕ) (ts : List Tree) (s : Shown) (u : Used) (ns ms : List New) (ks : List ℕ)
    → ((es : List Placed) (ls : List ℕ) (m : New) → AreKnown (length ts) es → m.formula < length ts → IsClosed (new_tree ts m) → right es → right (with_new ls es m)) → ((es : List Placed) (live more : Bool) (i : ℕ) → (placed_at es i).live ≡ true → right es → right (used_at live more es i))
    → EachKnown (length ts) s.waits → AreKnown (length ts) s.now → (placed_at s.now u.entry).live ≡ true → NewsUnder (length ts) ns → NewsUnder (length ts) ms → AllClosed (new_trees ts ns) → AllClosed (new_trees ts ms) → (stays u.rule ≡ true → stays_second u.rule ≡ true) → IsMemo right saved c s → d ≡ c + 1 → ((es : List Placed) → right es → right2 es)
    → ((es : List Placed) → right es → saved2 c es) → Stays (length ts) c saved saved2 → IsMemo right2 saved2 d (used_both s u ns ms ks)
memo_split right right2 saved saved2 c d ts s u ns ms ks added used w a v l j x1 x2 o m e keeps puts h = record { now = now; waits = waits; count = omega (arith, e, m.count, length_push s.waits side) }
  where
    side : List Placed
    side = with_all ks (second_used s u) ms

    twice : used_at (stays u.rule) false (second_used s u) u.entry ≡ used_at (stays u.rule) (rises u.rule) s.now u.entry
    twice = used_twice (stays u.rule) (stays_second u.rule) (rises u.rule) s.now u.entry o

    now : right2 (with_all ks (used_at (stays u.rule) false (second_used s u) u.entry) ns)
    now =
        subst (λ es. right2 (with_all ks es ns)) (sym twice)
        (keeps (with_all ks (used_at (stays u.rule) (rises u.rule) s.now u.entry) ns)
        (right_all right ts added ks (used_at (stays u.rule) (rises u.rule) s.now u.entry) ns (known_used (length ts) (stays u.rule) (rises u.rule) s.now u.entry a) l x1 (used s.now (stays u.rule) (rises u.rule) u.entry v m.now)))

    second : saved2 c side
    second = puts side (right_all right ts added ks (second_used s u) ms (known_used (length ts) (stays_second u.rule) (rises u.rule) s.now u.entry a) j x2 (used s.now (stays_second u.rule) (rises u.rule) u.entry v m.now))

    waits : (k : ℕ) → k < length (s.waits ++ side ∷ []) → saved2 k (get_or (s.waits ++ side ∷ []) k [])
    waits k x =
        elim (cases_lt k (length s.waits)) [
          | inl y ↦ subst (saved2 k) (sym (get_or_append_left s.waits (side ∷ []) [] k y)) (h k (get_or s.waits k []) (omega (arith, y, m.count)) (each_at (length ts) s.waits k w) (m.waits k y))
          | inr y ↦
              let q : length s.waits ≡ k = omega (arith, x, y, length_push s.waits side) in
              let p : c ≡ k = m.count ∙ q in
              subst (saved2 k) (sym (get_or_push s.waits side [] k q)) (subst (λ i. saved2 i side) p second)
        ]

-- after the branch that waits at k is taken up, and what was put off for it
pub memo_back : (right right2 : List Placed → Type 0) (saved saved2 : ℕ → List Placed → Type 0) (c d n k i : ℕ) (s t : Shown) → EachKnown n s.waits → k < length s.waits → IsMemo right saved c s → t ≡ reopened s k i → d ≡ k → ((es : List Placed) → saved k es → right2 es)
    → Stays n k saved saved2 → IsMemo right2 saved2 d t
memo_back right right2 saved saved2 c d n k i s t w l m e f r h =
    subst (λ z. IsMemo right2 saved2 d z) (sym e)
    (record {
      now = r (get_or s.waits k []) (m.waits k l);
      waits =
          λ x y.
          let z : x < k = omega (arith, y, count) in
          subst (saved2 x) (sym (get_or-take k s.waits x [] z)) (h x (get_or s.waits x []) z (each_at n s.waits x w) (m.waits x (omega (arith, z, l))));
      count = f ∙ sym count;
    })
  where
    count : length (take k s.waits) ≡ k
    count = length-take-le k s.waits (omega (arith, l))

-- at the start
pub memo_start : (right : List Placed → Type 0) (saved : ℕ → List Placed → Type 0) (c : ℕ) (ts : List Tree) (s : Shown) (ms : List New) → ((es : List Placed) (ls : List ℕ) (m : New) → AreKnown (length ts) es → m.formula < length ts → IsClosed (new_tree ts m) → right es → right (with_new ls es m)) → NewsUnder (length ts) ms → AllClosed (new_trees ts ms) → right [] → c ≡ 0
    → s ≡ record { now = with_all [] [] ms; waits = []; sets = [] ∷ [] } → IsMemo right saved c s
memo_start right saved c ts s ms law l h r e f =
    subst (λ z. IsMemo right saved c z) (sym f) (record { now = right_all right ts law [] [] ms tt l h r; waits = λ k x. absurd (omega (arith, x)); count = e })
