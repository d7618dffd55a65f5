-- Turns by numbers against the definition's steps.
use Rattle.std.proofs.Common.{◌≡◌, ℕ, ◌≤◌, inl, inr, List, [], ◌∷◌, ◌++◌, length, map, refl, ap, sym, ◌∙◌, arith, subst}
use Rattle.std.specs.Prelude.{Some, None}
use Rattle.std.proofs.lemmas.List.{map-append, length_push, same_from_push}
use Rattle.core_expr.specs.Tree.{Tree}
use Rattle.term_bank.specs.Banks.{tree_at, Extends}
use Rattle.search_definition.specs.Branches.{Closing}
use Rattle.search_definition.specs.Rules.Sides.{Alone as Lone, Both}
use Rattle.search_definition.specs.Search.{Move}
use Rattle.search_definition.specs.Search.Move.{Shuts, Applied}
use Rattle.search_trace.specs.declared.turn.Added.{Added}
use Rattle.search_trace.specs.declared.turn.Turn.{Turn}
use Rattle.search_trace.specs.declared.turn.Turn.TheVariants.{Shut, Alone as One, Split}
use Rattle.search_trace.specs.Traces.{added_trees, move_of, moves_of, AreUnder, AddedUnder, UsedUnder, TurnUnder, TurnsUnder}
use Rattle.search_trace.specs.declared.turn.Used.{Used}
use Rattle.search_loop.specs.Turns.{Resumes}
use Rattle.tableau_search.specs.Boards.{with_next, IsResumed}
use Rattle.tableau_search.proofs.LiftLaws.{tree_kept}

-- formulas come

trees_kept : (ts us : List Tree) (ks : List ℕ) → Extends ts us → AreUnder (length ts) ks → map (tree_at us) ks ≡ map (tree_at ts) ks
trees_kept ts us [] g a = refl
trees_kept ts us (k ∷ ks) g a =
    let p : tree_at us k ≡ tree_at ts k = tree_kept ts us k g a.0 in
    let q : map (tree_at us) ks ≡ map (tree_at ts) ks = trees_kept ts us ks g a.1 in
    λ i. p i ∷ q i

added_kept : (ts us : List Tree) (xs : List Added) → Extends ts us → AddedUnder (length ts) xs → added_trees us xs ≡ added_trees ts xs
added_kept ts us [] g a = refl
added_kept ts us (x ∷ xs) g a =
    let p : tree_at us x.formula ≡ tree_at ts x.formula = tree_kept ts us x.formula g a.0 in
    let q : added_trees us xs ≡ added_trees ts xs = added_kept ts us xs g a.1 in
    λ i. p i ∷ q i

move_kept : (ts us : List Tree) (t : Turn) → Extends ts us → TurnUnder (length ts) t → move_of us t ≡ move_of ts t
move_kept ts us (Shut k es next) g a = ap (λ fs. Shuts (record { clash = k; entries = fs }) next) (trees_kept ts us es.items g a)
move_kept ts us (One u fs) g a =
    let p : map (tree_at us) u.named.items ≡ map (tree_at ts) u.named.items = trees_kept ts us u.named.items g a.0.0 in
    let q : map (tree_at us) u.terms.items ≡ map (tree_at ts) u.terms.items = trees_kept ts us u.terms.items g a.0.1 in
    let r : added_trees us fs.items ≡ added_trees ts fs.items = added_kept ts us fs.items g a.1 in
    λ i. Applied (record { entry = u.entry; step = record { rule = u.rule; named = p i; terms = q i; sides = Lone (r i) } }) (map (λ x. x.is_new) fs.items) []
move_kept ts us (Split u fs gs) g a =
    let p : map (tree_at us) u.named.items ≡ map (tree_at ts) u.named.items = trees_kept ts us u.named.items g a.0.0 in
    let q : map (tree_at us) u.terms.items ≡ map (tree_at ts) u.terms.items = trees_kept ts us u.terms.items g a.0.1 in
    let r : added_trees us fs.items ≡ added_trees ts fs.items = added_kept ts us fs.items g a.1 in
    let s : added_trees us gs.items ≡ added_trees ts gs.items = added_kept ts us gs.items g a.2 in
    λ i. Applied (record { entry = u.entry; step = record { rule = u.rule; named = p i; terms = q i; sides = Both (r i) (s i) } }) (map (λ x. x.is_new) fs.items) (map (λ x. x.is_new) gs.items)

pub moves_kept : (ts us : List Tree) (xs : List Turn) → Extends ts us → TurnsUnder (length ts) xs → moves_of us xs ≡ moves_of ts xs
moves_kept ts us [] g a = refl
moves_kept ts us (x ∷ xs) g a =
    let p : move_of us x ≡ move_of ts x = move_kept ts us x g a.0 in
    let q : moves_of us xs ≡ moves_of ts xs = moves_kept ts us xs g a.1 in
    λ i. p i ∷ q i

-- numbers that are below a greater number too

under_higher : (m n : ℕ) (ks : List ℕ) → m ≤ n → AreUnder m ks → AreUnder n ks
under_higher m n [] l a = tt
under_higher m n (k ∷ ks) l a = (omega (arith, l, a.0), under_higher m n ks l a.1)

added_higher : (m n : ℕ) (xs : List Added) → m ≤ n → AddedUnder m xs → AddedUnder n xs
added_higher m n [] l a = tt
added_higher m n (x ∷ xs) l a = (omega (arith, l, a.0), added_higher m n xs l a.1)

used_higher : (m n : ℕ) (u : Used) → m ≤ n → UsedUnder m u → UsedUnder n u
used_higher m n u l a = (under_higher m n u.named.items l a.0, under_higher m n u.terms.items l a.1)

turn_higher : (m n : ℕ) (t : Turn) → m ≤ n → TurnUnder m t → TurnUnder n t
turn_higher m n (Shut k es next) l a = under_higher m n es.items l a
turn_higher m n (One u fs) l a = (used_higher m n u l a.0, added_higher m n fs.items l a.1)
turn_higher m n (Split u fs gs) l a = (used_higher m n u l a.0, added_higher m n fs.items l a.1, added_higher m n gs.items l a.2)

pub turns_higher : (m n : ℕ) (xs : List Turn) → m ≤ n → TurnsUnder m xs → TurnsUnder n xs
turns_higher m n [] l a = tt
turns_higher m n (x ∷ xs) l a = (turn_higher m n x l a.0, turns_higher m n xs l a.1)

-- one turn more

pub turns_push : (n : ℕ) (xs : List Turn) (t : Turn) → TurnsUnder n xs → TurnUnder n t → TurnsUnder n (xs ++ t ∷ [])
turns_push n [] t a b = (b, tt)
turns_push n (x ∷ xs) t a b = (a.0, turns_push n xs t a.1 b)

turns_front : (n : ℕ) (xs : List Turn) (t : Turn) → TurnsUnder n (xs ++ t ∷ []) → TurnsUnder n xs × TurnUnder n t
turns_front n [] t a = (tt, a.0)
turns_front n (x ∷ xs) t a = let r : TurnsUnder n xs × TurnUnder n t = turns_front n xs t a.1 in ((a.0, r.0), r.1)

pub moves_push : (ts : List Tree) (xs : List Turn) (t : Turn) → moves_of ts (xs ++ t ∷ []) ≡ moves_of ts xs ++ move_of ts t ∷ []
moves_push ts xs t = map-append (move_of ts) xs (t ∷ [])

-- the last turn says what is next

next_under : (n k : ℕ) (t : Turn) → TurnUnder n t → TurnUnder n (with_next k t)
next_under n k (Shut c es next) a = a
next_under n k (One u fs) a = a
next_under n k (Split u fs gs) a = a

pub resumed_under : (n k : ℕ) (old new : List Turn) → IsResumed k old new → TurnsUnder n old → TurnsUnder n new
resumed_under n k old new (inl (e, f)) a = subst (λ xs. TurnsUnder n xs) (sym f) tt
resumed_under n k old new (inr (ts, t, e, f)) a =
    let r = turns_front n ts t (subst (λ xs. TurnsUnder n xs) e a) in
    subst (λ xs. TurnsUnder n xs) (sym f) (turns_push n ts (with_next k t) r.0 (next_under n k t r.1))

next_move : (ts : List Tree) (k : ℕ) (t : Turn) (c : Closing) → move_of ts t ≡ Shuts c None → move_of ts (with_next k t) ≡ Shuts c (Some k)
next_move ts k (Shut d es next) c e = cc
next_move ts k (One u fs) c e = cc
next_move ts k (Split u fs gs) c e = cc

nothing_more : (ms : List Move) (m : Move) → [] ≡ ms ++ m ∷ [] → ⊥
nothing_more ms m e = let l = ap length e in omega (arith, l, length_push ms m)

pub resumed_moves : (ts : List Tree) (k : ℕ) (old new : List Turn) → IsResumed k old new → Resumes k (moves_of ts old) (moves_of ts new)
resumed_moves ts k old new (inl (e, f)) ms c h = absurd (nothing_more ms (Shuts c None) (ap (moves_of ts) (sym e) ∙ h))
resumed_moves ts k old new (inr (xs, t, e, f)) ms c h =
    let p = same_from_push (moves_of ts xs) ms (move_of ts t) (Shuts c None) (sym (moves_push ts xs t) ∙ ap (moves_of ts) (sym e) ∙ h) in
    let q : move_of ts (with_next k t) ≡ Shuts c (Some k) = next_move ts k t c p.1 in
    ap (moves_of ts) f ∙ moves_push ts xs (with_next k t) ∙ (λ i. p.0 i ++ q i ∷ [])
