-- Formulas on branches are closed.
use Rattle.std.proofs.Common.{◌≡◌, ℕ, zero, suc, Bool, true, false, List, [], ◌∷◌, ◌++◌, length, get_or, take, refl, sym, subst, ◌∙◌}
use Rattle.std.specs.Prelude.{Option, Some, None}
use Rattle.core_expr.specs.Tree.{Tree}
use Rattle.seq_calculus.specs.Calculus.{IsClosed, AllClosed}
use Rattle.term_bank.specs.Banks.{tree_at, Extends}
use Rattle.search_definition.specs.declared.rule.Rank.{Rank}
use Rattle.search_definition.specs.Terms.{or_else, first_some}
use Rattle.search_definition.specs.Branches.{Branch, formulas}
use Rattle.search_definition.specs.Rules.{Result}
use Rattle.search_definition.specs.Watches.{ClosedSides}
use Rattle.search_definition.specs.Instances.{Fresh}
use Rattle.search_definition.specs.Search.{by_rank, ranks, first_rule, Applies}
use Rattle.search_definition.proofs.Telling.{rule_tells}
use Rattle.branch_state.specs.declared.parts.New.{New}
use Rattle.branch_state.specs.Shown.{Placed, stands, fresh, with_new, with_all, dead, raised, used_at}
use Rattle.tableau_search.specs.Entries.{branch_of, new_tree, new_trees, AreKnown, EachKnown, AreClosed, EachClosed}
use Rattle.tableau_search.proofs.LiftLaws.{tree_kept}

-- as the definition has it
pub all_closed : (ts : List Tree) (es : List Placed) → AreClosed ts es → AllClosed (formulas (branch_of ts es))
all_closed ts [] a = tt
all_closed ts (e ∷ es) a = (a.0, all_closed ts es a.1)

closed_push : (ts : List Tree) (es : List Placed) (e : Placed) → AreClosed ts es → IsClosed (tree_at ts e.formula) → AreClosed ts (es ++ e ∷ [])
closed_push ts [] e a l = (l, tt)
closed_push ts (x ∷ es) e a l = (a.0, closed_push ts es e a.1 l)

pub closed_new : (ts : List Tree) (ks : List ℕ) (es : List Placed) (m : New) → AreClosed ts es → IsClosed (new_tree ts m) → AreClosed ts (with_new ks es m)
closed_new ts ks es m a l = go (stands es m.formula)
  where
    go : (b : Bool) → AreClosed ts (elim b [ true ↦ es | false ↦ es ++ fresh ks m ∷ [] ])
    go true = a
    go false = closed_push ts es (fresh ks m) a l

pub closed_all : (ts : List Tree) (ks : List ℕ) (es : List Placed) (ms : List New) → AreClosed ts es → AllClosed (new_trees ts ms) → AreClosed ts (with_all ks es ms)
closed_all ts ks es [] a l = a
closed_all ts ks es (m ∷ ms) a l = closed_all ts ks (with_new ks es m) ms (closed_new ts ks es m a l.0) l.1

closed_dead : (ts : List Tree) (es : List Placed) (i : ℕ) → AreClosed ts es → AreClosed ts (dead es i)
closed_dead ts [] i a = tt
closed_dead ts (e ∷ es) zero a = a
closed_dead ts (e ∷ es) (suc i) a = (a.0, closed_dead ts es i a.1)

closed_raised : (ts : List Tree) (es : List Placed) (i : ℕ) → AreClosed ts es → AreClosed ts (raised es i)
closed_raised ts [] i a = tt
closed_raised ts (e ∷ es) zero a = a
closed_raised ts (e ∷ es) (suc i) a = (a.0, closed_raised ts es i a.1)

pub closed_used : (ts : List Tree) (stays rises : Bool) (es : List Placed) (i : ℕ) → AreClosed ts es → AreClosed ts (used_at stays rises es i)
closed_used ts true true es i a = closed_raised ts es i a
closed_used ts true false es i a = a
closed_used ts false true es i a = closed_raised ts (dead es i) i (closed_dead ts es i a)
closed_used ts false false es i a = closed_dead ts es i a

pub each_closed_push : (ts : List Tree) (ess : List (List Placed)) (es : List Placed) → EachClosed ts ess → AreClosed ts es → EachClosed ts (ess ++ es ∷ [])
each_closed_push ts [] es a l = (l, tt)
each_closed_push ts (xs ∷ ess) es a l = (a.0, each_closed_push ts ess es a.1 l)

pub each_closed_at : (ts : List Tree) (ess : List (List Placed)) (k : ℕ) → EachClosed ts ess → AreClosed ts (get_or ess k [])
each_closed_at ts [] k a = tt
each_closed_at ts (es ∷ ess) zero a = a.0
each_closed_at ts (es ∷ ess) (suc k) a = each_closed_at ts ess k a.1

pub each_closed_take : (ts : List Tree) (ess : List (List Placed)) (k : ℕ) → EachClosed ts ess → EachClosed ts (take k ess)
each_closed_take ts ess zero a = tt
each_closed_take ts [] (suc k) a = tt
each_closed_take ts (es ∷ ess) (suc k) a = (a.0, each_closed_take ts ess k a.1)

-- formulas come

pub closed_kept : (ts us : List Tree) (es : List Placed) → Extends ts us → AreKnown (length ts) es → AreClosed ts es → AreClosed us es
closed_kept ts us [] g a h = tt
closed_kept ts us (e ∷ es) g a h = (subst IsClosed (sym (tree_kept ts us e.formula g a.0)) h.0, closed_kept ts us es g a.1 h.1)

pub each_closed_kept : (ts us : List Tree) (ess : List (List Placed)) → Extends ts us → EachKnown (length ts) ess → EachClosed ts ess → EachClosed us ess
each_closed_kept ts us [] g a h = tt
each_closed_kept ts us (es ∷ ess) g a h = (closed_kept ts us es g a.0 h.0, each_closed_kept ts us ess g a.1 h.1)

-- what a rule adds is closed

some_rank : (f : Rank → Option Result) (xs : List Rank) (r : Result) → first_some f xs ≡ Some r → (k : Rank) × (f k ≡ Some r)
some_rank f [] r h = cc
some_rank f (x ∷ xs) r h = go (f x) refl h (some_rank f xs r)
  where
    go : (o : Option Result) → f x ≡ o → or_else o (first_some f xs) ≡ Some r → (first_some f xs ≡ Some r → (k : Rank) × (f k ≡ Some r)) → (k : Rank) × (f k ≡ Some r)
    go (Some y) e k more = (x, e ∙ k)
    go None e k more = more k

pub first_applies : (w : Fresh) (b : Branch) (r : Result) → first_rule w b ≡ Some r → Applies w b r
unfolding first_rule
first_applies w b r h = some_rank (by_rank w b) ranks r h

pub sides_closed : (w : Fresh) (ts : List Tree) (es : List Placed) (r : Result) → AreClosed ts es → first_rule w (branch_of ts es) ≡ Some r → ClosedSides r.step.sides
sides_closed w ts es r a h =
    let k = first_applies w (branch_of ts es) r h in
    (rule_tells w (branch_of ts es) k.0 r (all_closed ts es a) k.1).6
