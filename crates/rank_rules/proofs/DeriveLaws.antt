-- What rank derive gives, by what its tests say.
use Rattle.std.proofs.Common.{◌≡◌, ℕ, ◌+◌, ◌<◌, Bool, true, false, Option, Some, None, Result, drop, List, [], ◌∷◌, length, refl, ap, sym, ◌∙◌, subst}
use Rattle.std.specs.Prelude.{not, IfOk}
use Rattle.std.proofs.lemmas.List.{drop_more}
use Rattle.term_bank.specs.Banks.{Extends, tree_at}
use Rattle.term_shapes.proofs.Extending.{tree-extend}
use Rattle.branch_state.specs.Shown.{Placed, placed_at, no_place}
use Rattle.rank_rules.proofs.Entries.{branch_kept}
use Rattle.rank_rules.specs.declared.derivation.Telling.{Telling}
use Rattle.core_expr.specs.Tree.{Tree, not_, eq_, fun_, dom_}
use Rattle.core_expr.specs.Terms.{same}
use Rattle.search_definition.specs.declared.rule.Rule.TheVariants.{SameMembers, FunctionValues, OtherFunction}
use Rattle.search_definition.specs.Terms.{if_so, either, or_else, after, first_some}
use Rattle.search_definition.specs.Branches.{Branch, alive, has}
use Rattle.search_definition.specs.Rules.{Step, gives}
use Rattle.search_definition.specs.Equations.{is_set, is_fun, same_members, step_if, derive_set, derive_fun, derive_not, at_all, lacks, derive, Described, described, describes, other_function}
use Rattle.rank_rules.specs.Ranked.{own_of, branch_of, AreKnown}
use Rattle.rank_rules.specs.Deriving.{described_of, IsDescribed, where_live}
use Rattle.formula_rules.specs.declared.given.Given.{Given}
use Rattle.formula_rules.specs.Answers.{HasAnswer, HasStep, HasTerm, alone_step}

-- an answer by the tests' values
pub tested : (ts : List Tree) (o : Option Given) (r : Option Step) (b c : Bool) → b ≡ c → HasAnswer ts o (step_if b r) → HasAnswer ts o (step_if c r)
tested ts o r b c e h = subst (λ b. HasAnswer ts o (step_if b r)) e h

-- case 0
pub set_stands : (ts : List Tree) (b : Branch) (s t : Tree) → has b (same_members s t) ≡ true → HasAnswer ts None (derive_set b s t)
set_stands ts b s t h = go (either (is_set s) (is_set t))
  where
    inner : HasAnswer ts None (step_if (not (has b (same_members s t))) (gives SameMembers (eq_ s t ∷ []) [] (same_members s t ∷ [])))
    inner = tested ts None _ false (not (has b (same_members s t))) (ap not (sym h)) tt

    go : (x : Bool) → HasAnswer ts None (step_if x (step_if (not (has b (same_members s t))) (gives SameMembers (eq_ s t ∷ []) [] (same_members s t ∷ []))))
    go true = inner
    go false = tt

pub set_new : (ts : List Tree) (b : Branch) (s t : Tree) (g : Given) → either (is_set s) (is_set t) ≡ true → has b (same_members s t) ≡ false → HasStep ts g (alone_step SameMembers (eq_ s t ∷ []) [] (same_members s t ∷ [])) → HasAnswer ts (Some g) (derive_set b s t)
set_new ts b s t g e h k = tested ts (Some g) _ true (either (is_set s) (is_set t)) (sym e) (tested ts (Some g) _ true (not (has b (same_members s t))) (ap not (sym h)) k)

-- case 1: the tests of a function constructor over s with the body e, and what it gives
pub values_fun : (ts : List Tree) (b : Branch) (f g s e : Tree) → is_fun g ≡ true → HasAnswer ts None (derive_fun b f g (fun_ s e))
values_fun ts b f g s e h = tested ts None _ false (not (either (is_fun g) (same e (own_of g)))) (ap (λ x. not (either x (same e (own_of g)))) (sym h)) tt

pub values_own : (ts : List Tree) (b : Branch) (f g s e : Tree) → is_fun g ≡ false → same e (own_of g) ≡ true → HasAnswer ts None (derive_fun b f g (fun_ s e))
values_own ts b f g s e h k = tested ts None _ false (not (either (is_fun g) (same e (own_of g)))) (λ i. not (either (sym h i) (sym k i))) tt

pub values_stand : (ts : List Tree) (b : Branch) (f g s e : Tree) → lacks b (eq_ (dom_ g) s) (at_all g s e) ≡ false → HasAnswer ts None (derive_fun b f g (fun_ s e))
values_stand ts b f g s e l = go (not (either (is_fun g) (same e (own_of g))))
  where
    r : Option Step
    r = gives FunctionValues (f ∷ []) (g ∷ []) (eq_ (dom_ g) s ∷ at_all g s e ∷ [])

    go : (x : Bool) → HasAnswer ts None (step_if x (step_if (lacks b (eq_ (dom_ g) s) (at_all g s e)) r))
    go true = tested ts None r false (lacks b (eq_ (dom_ g) s) (at_all g s e)) (sym l) tt
    go false = tt

pub values_new : (ts : List Tree) (b : Branch) (f g s e : Tree) (x : Given) → is_fun g ≡ false → same e (own_of g) ≡ false → lacks b (eq_ (dom_ g) s) (at_all g s e) ≡ true → HasStep ts x (alone_step FunctionValues (f ∷ []) (g ∷ []) (eq_ (dom_ g) s ∷ at_all g s e ∷ [])) → HasAnswer ts (Some x) (derive_fun b f g (fun_ s e))
values_new ts b f g s e x h k l w =
    tested ts (Some x) _ true (not (either (is_fun g) (same e (own_of g)))) (λ i. not (either (sym h i) (sym k i)))
    (tested ts (Some x) (gives FunctionValues (f ∷ []) (g ∷ []) (eq_ (dom_ g) s ∷ at_all g s e ∷ [])) true (lacks b (eq_ (dom_ g) s) (at_all g s e)) (sym l) w)

-- the first answer, or the second
pub first_answer : (ts : List Tree) (g : Given) (o p : Option Step) → HasAnswer ts (Some g) o → HasAnswer ts (Some g) (or_else o p)
first_answer ts g (Some s) p h = h
first_answer ts g None p h = absurd h

pub second_answer : (ts : List Tree) (r : Option Given) (o p : Option Step) → o ≡ None → HasAnswer ts r p → HasAnswer ts r (or_else o p)
second_answer ts r o p e h = subst (λ o. HasAnswer ts r (or_else o p)) (sym e) h

-- what an equation gives, case by case
pub equation_cases : (b : Branch) (f s t : Tree) → f ≡ eq_ s t → derive b f ≡ or_else (derive_set b s t) (or_else (derive_fun b f s t) (derive_fun b f t s))
equation_cases b f s t e = ap (derive b) e ∙ (λ i. or_else (derive_set b s t) (or_else (derive_fun b (sym e i) s t) (derive_fun b (sym e i) t s)))

pub denied_cases : (b : Branch) (f s t : Tree) → f ≡ not_ (eq_ s t) → derive b f ≡ or_else (derive_not b f s t) (derive_not b f t s)
denied_cases b f s t e = ap (derive b) e ∙ (λ i. or_else (derive_not b (sym e i) s t) (derive_not b (sym e i) t s))

-- the same formula, function and constructor in a longer bank
pub fun_kept : (ts ts' : List Tree) (es : List Placed) (f g u : ℕ) → Extends ts ts' → AreKnown (length ts) es → f < length ts → g < length ts → u < length ts → derive_fun (branch_of ts' es) (tree_at ts' f) (tree_at ts' g) (tree_at ts' u) ≡ derive_fun (branch_of ts es) (tree_at ts f) (tree_at ts g) (tree_at ts u)
fun_kept ts ts' es f g u x k lf lg lu = λ i. derive_fun (branch_kept ts ts' es x k i) (tree-extend ts ts' f x lf i) (tree-extend ts ts' g x lg i) (tree-extend ts ts' u x lu i)

pub not_kept : (ts ts' : List Tree) (es : List Placed) (f g u : ℕ) → Extends ts ts' → AreKnown (length ts) es → f < length ts → g < length ts → u < length ts → derive_not (branch_of ts' es) (tree_at ts' f) (tree_at ts' g) (tree_at ts' u) ≡ derive_not (branch_of ts es) (tree_at ts f) (tree_at ts g) (tree_at ts u)
not_kept ts ts' es f g u x k lf lg lu = λ i. derive_not (branch_kept ts ts' es x k i) (tree-extend ts ts' f x lf i) (tree-extend ts ts' g x lg i) (tree-extend ts ts' u x lu i)

pub ok_answer : {E : Type 0} (r : Result (Option Given) E) (ts : List Tree) (p q : Option Step) → p ≡ q → IfOk r (λ o. HasAnswer ts o p) → IfOk r (λ o. HasAnswer ts o q)
ok_answer r ts p q e h = subst (λ s. IfOk r (λ o. HasAnswer ts o s)) e h

-- the first answer is none
pub ok_second : {E : Type 0} (r : Result (Option Given) E) (ts : List Tree) (p q s : Option Step) → s ≡ or_else p q → p ≡ None → IfOk r (λ o. HasAnswer ts o q) → IfOk r (λ o. HasAnswer ts o s)
ok_second r ts p q s e n h = subst (λ s. IfOk r (λ o. HasAnswer ts o s)) (sym (e ∙ ap (λ p. or_else p q) n)) h

-- case 2
pub other_fun : (ts : List Tree) (b : Branch) (f g u : Tree) → is_fun u ≡ false → HasAnswer ts None (derive_not b f g u)
other_fun ts b f g u e = tested ts None _ false (is_fun u) (sym e) tt

pub own_fun : (ts : List Tree) (b : Branch) (f g u : Tree) → is_fun g ≡ true → HasAnswer ts None (derive_not b f g u)
own_fun ts b f g u e = go (is_fun u)
  where
    go : (x : Bool) → HasAnswer ts None (step_if x (step_if (not (is_fun g)) (after (other_function b f g u) (first_some (describes g) (alive b)))))
    go true = tested ts None _ false (not (is_fun g)) (ap not (sym e)) tt
    go false = tt

pub by_described : (b : Branch) (f g u : Tree) → is_fun u ≡ true → is_fun g ≡ false → derive_not b f g u ≡ after (other_function b f g u) (first_some (describes g) (alive b))
by_described b f g u e h = λ i. step_if (e i) (step_if (not (h i)) (after (other_function b f g u) (first_some (describes g) (alive b))))

-- the first live entry that describes the function
pub next_described : (f : Tree → Option Described) (ts : List Tree) (es : List Placed) (i : ℕ) → i < length es → first_some f (alive (branch_of ts (drop i es))) ≡ or_else (where_live (placed_at es i).live (f (tree_at ts (placed_at es i).formula))) (first_some f (alive (branch_of ts (drop (i + 1) es))))
next_described f ts es i l = ap (λ ps. first_some f (alive (branch_of ts ps))) (drop_more es i no_place l) ∙ go (placed_at es i).live
  where
    rest : Option Described
    rest = first_some f (alive (branch_of ts (drop (i + 1) es)))

    x : Tree
    x = tree_at ts (placed_at es i).formula

    go : (b : Bool) → first_some f (if_so b (x ∷ alive (branch_of ts (drop (i + 1) es))) (alive (branch_of ts (drop (i + 1) es)))) ≡ or_else (where_live b (f x)) rest
    go true = refl
    go false = refl

pub described_here : (ts : List Tree) (d : Telling) (o p : Option Described) → IsDescribed ts (Some d) o → IsDescribed ts (Some d) (or_else o p)
described_here ts d (Some x) p h = h
described_here ts d None p h = absurd h

pub described_none : (ts : List Tree) (o : Option Described) → IsDescribed ts None o → o ≡ None
described_none ts None h = refl
described_none ts (Some d) h = absurd h

pub described_some : (ts : List Tree) (x : Telling) (o : Option Described) → IsDescribed ts (Some x) o → o ≡ Some (described_of ts x)
described_some ts x None h = absurd h
described_some ts x (Some d) h = ap (λ d. Some d) (sym h.is)

pub described_found : (ts : List Tree) (g i k : ℕ) (o : Option Tree) → i < length ts → HasTerm ts (Some k) o → IsDescribed ts (Some (record { formula = i; function = k })) (described (tree_at ts i) o)
described_found ts g i k None l h = absurd h
described_found ts g i k (Some t) l h = record { formula = l; function = h.within; is = λ j. record { formula = tree_at ts i; function = h.tree j } }

pub described_missing : (ts : List Tree) (f : Tree) (o : Option Tree) → HasTerm ts None o → IsDescribed ts None (described f o)
described_missing ts f None h = tt
described_missing ts f (Some t) h = absurd h

pub other_stands : (ts : List Tree) (b : Branch) (f g u : Tree) (d : Described) → has b (not_ (eq_ d.function u)) ≡ true → HasAnswer ts None (other_function b f g u d)
other_stands ts b f g u d e = tested ts None _ false (not (has b (not_ (eq_ d.function u)))) (ap not (sym e)) tt

pub other_new : (ts : List Tree) (b : Branch) (f g u : Tree) (d : Described) (x : Given) → has b (not_ (eq_ d.function u)) ≡ false → HasStep ts x (alone_step OtherFunction (f ∷ d.formula ∷ []) (g ∷ []) (not_ (eq_ d.function u) ∷ [])) → HasAnswer ts (Some x) (other_function b f g u d)
other_new ts b f g u d x e k = tested ts (Some x) _ true (not (has b (not_ (eq_ d.function u)))) (ap not (sym e)) k
