-- What answers mean, by the laws of the search.
use Rattle.std.specs.Prelude.{◌≡◌, ℕ, Bool, true, false, List, [], ◌∷◌, Option, Some, None}
use Rattle.std.proofs.Common.{refl, ap, sym, ◌∙◌, subst}
use Rattle.std.proofs.lemmas.Bool.{and_parts}
use Rattle.core_expr.specs.declared.canon.Canon.{Canon}
use Rattle.core_expr.specs.Tree.{Tree}
use Rattle.core_expr.specs.Heads.{is_canonical}
use Rattle.core_expr.specs.Terms.{is_scoped}
use Rattle.core_expr.specs.Equal.{scoped-true}
use Rattle.seq_calculus.specs.Calculus.{IsClosed, AllClosed}
use Rattle.valuation.specs.Truth.{Falsifies, by_number}
use Rattle.search_definition.specs.Terms.{when}
use Rattle.search_definition.specs.Branches.{Branch}
use Rattle.search_definition.specs.Search.{End}
use Rattle.search_definition.specs.Search.End.{Closed, Saturated as Open, Spent as Cut}
use Rattle.proof_trees.specs.Laws.{LoopProves}
use Rattle.proof_writer.specs.Shapes.{neg_left}
use Rattle.propositional_laws.specs.Formulas.{is_propositional_canon, symbol_count}
use Rattle.propositional_laws.specs.Valuations.{valuation}
use Rattle.propositional_laws.specs.Laws.{ClosedIsValid, FormsAreFormulas, TurnsSuffice, DecidesPropositional, FewConnectives, ValuesFalsify as SearchFalsifies}
use Rattle.leaf_prover.specs.declared.answer.Answer.{Answer}
use Rattle.leaf_prover.specs.declared.answer.Answer.TheVariants.{Proved, Saturated, Spent, Cached}
use Rattle.leaf_prover.specs.Forms.{is_form_part, are_form_parts}
use Rattle.leaf_prover.specs.Answers.{answer_for, end_of, is_proved, values_of}
use Rattle.leaf_prover.specs.Laws.{ProvedDerives, ProvedIsValid, ValuesFalsify, EnoughTurnsDecide, FewConnectivesDecide}

pub closed : (e : Tree) → is_form_part e ≡ true → IsClosed e
closed e h = scoped-true 0 e (and_parts (is_canonical e) (is_scoped 0 e) h).1

pub all_closed : (es : List Tree) → are_form_parts es ≡ true → AllClosed es
all_closed [] h = tt
all_closed (e ∷ es) h = let p = and_parts (is_form_part e) (are_form_parts es) h in (closed e p.0, all_closed es p.1)

proved-end : (c : Canon) (e : End) → is_proved (answer_for c e) ≡ true → (k : ℕ) × (e ≡ Closed k)
proved-end c (Closed k) h = (k, refl)
proved-end c (Open b k) h = absurd cc
proved-end c (Cut k) h = absurd cc

spent-end : (c : Canon) (k : ℕ) (e : End) → answer_for c e ≡ Spent k → (m : ℕ) × (e ≡ Cut m)
spent-end c k (Closed m) h = absurd cc
spent-end c k (Open b m) h = absurd cc
spent-end c k (Cut m) h = (m, refl)

value-list : Answer → Option (List Bool)
value-list (Proved k) = None
value-list (Saturated vs k) = vs
value-list (Spent k) = None
value-list Cached = None

saturated-end : (c : Canon) (e : End) (values : List Bool) (turns : ℕ) → answer_for c e ≡ Saturated (Some values) turns → (b : Branch) × (k : ℕ) × (e ≡ Open b k) × (values_of c b ≡ Some values)
unfolding value-list
saturated-end c (Closed k) values turns h = absurd cc
saturated-end c (Open b k) values turns h = (b, k, refl, ap value-list h)
saturated-end c (Cut k) values turns h = absurd cc

some-is : {A : Type 0} {x y : A} → ◌≡◌ {A = Option A} (Some x) (Some y) → x ≡ y
some-is e = cc

none-is : {A : Type 0} {y : A} → ◌≡◌ {A = Option A} None (Some y) → ⊥
none-is e = cc

pub derives : LoopProves → ProvedDerives
unfolding end_of
derives proves n c form h =
    let f = and_parts (are_form_parts c.facts) (is_form_part c.goal) form in
    let e = proved-end c (end_of n c) h in
    let r = proves c.facts c.goal n e.0 (all_closed c.facts f.0) (closed c.goal f.1) e.1 in
    (neg_left c.goal r.0, r.2)

pub valid : FormsAreFormulas → ClosedIsValid → ProvedIsValid
unfolding end_of
valid formed closes n c p h =
    let f = formed c p in
    let e = proved-end c (end_of n c) h in
    closes c.facts c.goal f.0 f.1 n e.0 e.1

pub falsified : SearchFalsifies → ValuesFalsify
unfolding end_of
falsified falsifies n c numbered values turns h =
    let e = saturated-end c (end_of n c) values turns h in
    by_test (is_propositional_canon c) refl e
  where
    by_test : (t : Bool) → is_propositional_canon c ≡ t → (b : Branch) × (k : ℕ) × (end_of n c ≡ Open b k) × (values_of c b ≡ Some values) → Falsifies (by_number values) c.facts c.goal
    by_test true p e =
        let is : valuation (symbol_count c) e.0 ≡ values = some-is (sym (ap (λ t. when t (valuation (symbol_count c) e.0)) p) ∙ e.3) in
        subst (λ vs. Falsifies (by_number vs) c.facts c.goal) is (falsifies c p numbered n e.1 e.0 e.2)
    by_test false p e = absurd (none-is (sym (ap (λ t. when t (valuation (symbol_count c) e.0)) p) ∙ e.3))

pub enough_decide : FormsAreFormulas → TurnsSuffice → DecidesPropositional → EnoughTurnsDecide
unfolding end_of
enough_decide formed suffice decides n c p turns =
    let f = formed c p in
    let d = decides c.facts c.goal f.0 f.1 n turns in
    record {
      ended = λ k h. let e = spent-end c k (end_of n c) h in suffice c.facts c.goal f.0 f.1 n e.0 turns e.1;
      decided = ((λ h. d.0 (proved-end c (end_of n c) h)), λ h. ap (λ e. is_proved (answer_for c e)) (d.1 h).1);
    }

pub few_decide : FormsAreFormulas → TurnsSuffice → DecidesPropositional → FewConnectives → FewConnectivesDecide
few_decide formed suffice decides few c p at_most = enough_decide formed suffice decides 100000 c p ((few c.facts c.goal).0 at_most)
