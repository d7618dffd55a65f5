-- The leaves of a right proof have canonical forms that the search can take, where what is known and the goal are closed.
use Rattle.std.specs.Prelude.{◌≡◌, ℕ, Bool, true, false, Option, Some, None, List, [], ◌∷◌, ◌++◌, map}
use Rattle.std.proofs.Common.{refl}
use Rattle.core_expr.specs.declared.head.Sym.{Sym}
use Rattle.core_expr.specs.Tree.{imp_, in_}
use Rattle.tla_ast.specs.declared.place.Place.{Place}
use Rattle.obligation.specs.declared.obligation.Definition.{Definition}
use Rattle.proof_contexts.specs.declared.leaf.Leaf.{Leaf}
use Rattle.proof_contexts.specs.declared.leaf.LeafKind.TheVariants as kind
use Rattle.proof_contexts.specs.Steps.{Fact, Proof, Steps, Step}
use Rattle.proof_contexts.specs.Steps.Fact.{Cited, Plain}
use Rattle.proof_contexts.specs.Steps.Proof.{Missing, Omitted, Obvious, By, Stepped}
use Rattle.proof_contexts.specs.Steps.Steps.{Qed, Next}
use Rattle.proof_contexts.specs.Steps.Step.{Assert, Case, Suffices, Have, Take, TakeIn, Witness, WitnessIn, Pick, Define, Use, Hide}
use Rattle.proof_contexts.specs.Contexts.{Context, told, usable, fact_of, picked, usable_of, cited_of, as_imp, given, ex_in, top, inside, after}
use Rattle.proof_contexts.specs.Leaves.{a_leaf, leaf, plain_leaves, main_leaf, own_leaves, leaves, step_leaves, sub_leaves}
use Rattle.proof_contexts.specs.Right.{level_after, RightFacts, RightKnown, RightProof, RightSteps, RightStep, RightTheorem}
use Rattle.proof_contexts.specs.Theorems.{Known, Theorem, entry_of, before_it, start, theorem_leaves}
use Rattle.proof_contexts.specs.Theorems.Known.{Assumption, Earlier}
use Rattle.proof_contexts.proofs.StepLaws.{RightItems-good}
use Rattle.leaf_forms.specs.Leaves.{OfKind, OfLeaves}
use Rattle.leaf_forms.specs.Laws.{IsForm}
use Rattle.leaf_forms.proofs.Forms.{leaf_form}
use Rattle.leaf_forms.proofs.Closed.{KnownClosed, known_add, closed_both, usable_closed, ContextClosed, WhereClosed, imp_closed, cited_closed, fact_closed, statement_closed, after_closed}

abbrev pub AreForms : List Leaf → Type 0
AreForms = OfLeaves IsForm

forms_both : (xs ys : List Leaf) → AreForms xs → AreForms ys → AreForms (xs ++ ys)
forms_both [] ys h q = q
forms_both (x ∷ xs) ys h q = (h.0, forms_both xs ys h.1 q)

-- what follows from a value, where there is one, and else these leaves
forms_given : {A : Type 0} (o : Option A) (ls : List Leaf) (f : A → List Leaf) → AreForms ls → ((x : A) → o ≡ Some x → AreForms (f x)) → AreForms (given o ls f)
forms_given None ls f h q = h
forms_given (Some x) ls f h q = q x refl

forms_after : (p : Place) (o : Option Context) (f : Context → List Leaf) → WhereClosed o → ((d : Context) → ContextClosed d → AreForms (f d)) → AreForms (given o (a_leaf p kind.Shape ∷ []) f)
forms_after p None f h q = (tt, tt)
forms_after p (Some d) f h q = q d h

module _ (rank : Sym → ℕ) (table : List Definition) (may : ℕ → Bool) where
  plain_forms : (n : ℕ) (c : Context) (u : List ℕ) (fs : List Fact) → RightFacts rank table may n fs → ContextClosed c → AreForms (plain_leaves table (usable_of c.known) u fs)
  plain_forms n c u [] r h = tt
  plain_forms n c u (Cited x ∷ fs) r h = plain_forms n c u fs r.1 h
  plain_forms n c u (Plain p e ∷ fs) r h = (leaf_form table p (usable_of c.known) e u (usable_closed c.known h.0) r.0.closed, plain_forms n c u fs r.1 h)

  main_form : (p : Place) (n : ℕ) (c : Context) (only : Bool) (fs : List Fact) (u : List ℕ) → RightFacts rank table may n fs → ContextClosed c → OfKind IsForm (main_leaf table p c only fs u).kind
  main_form p n c true fs u r h = leaf_form table p (cited_of c.known fs) c.goal u (cited_closed rank table may n c.known fs r h.0) h.1
  main_form p n c false fs u r h =
      leaf_form table p (usable_of c.known ++ cited_of c.known fs) c.goal (c.defs ++ u)
      (closed_both (usable_of c.known) (cited_of c.known fs) (usable_closed c.known h.0) (cited_closed rank table may n c.known fs r h.0)) h.1

  own_forms : (p : Place) (s : Step) (n : ℕ) (c : Context) → RightStep rank table may s n → ContextClosed c → AreForms (own_leaves table p s c)
  own_forms p (Have l f) n c r h =
      forms_given (as_imp (top table c)) [] (λ q. leaf table p (usable_of c.known) (imp_ q.first f) c.defs ∷ []) tt
      (λ q e. (leaf_form table p (usable_of c.known) (imp_ q.first f) c.defs (usable_closed c.known h.0) ((imp_closed table c q h e).0, (r.closed, tt)), tt))
  own_forms p (WitnessIn l t s) n c r h =
      forms_given (ex_in table c s (top table c)) [] (λ _. leaf table p (usable_of c.known) (in_ t s) c.defs ∷ []) tt
      (λ _ _. (leaf_form table p (usable_of c.known) (in_ t s) c.defs (usable_closed c.known h.0) (r.0.closed, (r.1.closed, tt)), tt))
  own_forms p (Use l fs u) n c r h = plain_forms n c (c.defs ++ u) fs r h
  own_forms p (Assert l s q) n c r h = tt
  own_forms p (Case l f q) n c r h = tt
  own_forms p (Suffices l s q) n c r h = tt
  own_forms p (Take x) n c r h = tt
  own_forms p (TakeIn l x s) n c r h = tt
  own_forms p (Witness t) n c r h = tt
  own_forms p (Pick l is f q) n c r h = tt
  own_forms p (Define u) n c r h = tt
  own_forms p (Hide xs u) n c r h = tt

  mutual
    proof_forms : (p : Proof) (n : ℕ) (c : Context) → RightProof rank table may p n → ContextClosed c → AreForms (leaves table p c)
    proof_forms (Missing p) n c r h = (tt, tt)
    proof_forms (Omitted p) n c r h = (tt, tt)
    proof_forms (Obvious p) n c r h = (leaf_form table p (usable_of c.known) c.goal c.defs (usable_closed c.known h.0) h.1, tt)
    proof_forms (By p only fs u) n c r h =
        forms_both (plain_leaves table (usable_of c.known) (c.defs ++ u) fs) (main_leaf table p c only fs u ∷ [])
        (plain_forms n c (c.defs ++ u) fs r h) (main_form p n c only fs u r h, tt)
    proof_forms (Stepped ss) n c r h = steps_forms ss n c r h

    steps_forms : (ss : Steps) (n : ℕ) (c : Context) → RightSteps rank table may ss n → ContextClosed c → AreForms (step_leaves table ss c)
    steps_forms (Qed p) n c r h = proof_forms p r.0 c r.2 h
    steps_forms (Next p s ss) n c r h =
        forms_both (sub_leaves table s c ++ own_leaves table p s c) (given (after table s c) (a_leaf p kind.Shape ∷ []) (λ d. step_leaves table ss d))
        (forms_both (sub_leaves table s c) (own_leaves table p s c) (sub_forms s r.0 c r.2 h) (own_forms p s r.0 c r.2 h))
        (forms_after p (after table s c) (λ d. step_leaves table ss d) (after_closed rank table may s r.0 c r.2 h)
        (λ d k. steps_forms ss (level_after rank table r.0 s) d r.3 k))

    sub_forms : (s : Step) (n : ℕ) (c : Context) → RightStep rank table may s n → ContextClosed c → AreForms (sub_leaves table s c)
    sub_forms (Assert l s p) n c r h = proof_forms p r.1.0 (inside table (Assert l s p) c) r.1.2 (statement_closed rank table may n l s.items s.goal c r.0 h)
    sub_forms (Case l f p) n c r h = proof_forms p r.1.0 (inside table (Case l f p) c) r.1.2 (known_add c.known (told l f) h.0 r.0.closed, h.1)
    sub_forms (Suffices l s p) n c r h =
        proof_forms p r.1.0 (inside table (Suffices l s p) c) r.1.2
        (known_add c.known (usable l (fact_of s.items s.goal)) h.0 (fact_closed rank table may n s.items s.goal r.0), h.1)
    sub_forms (Pick l is f p) n c r h =
        proof_forms p r.1.0 (inside table (Pick l is f p) c) r.1.2 (h.0, (RightItems-good rank table may picked n is f r.0).closed)
    sub_forms (Have l f) n c r h = tt
    sub_forms (Take x) n c r h = tt
    sub_forms (TakeIn l x s) n c r h = tt
    sub_forms (Witness t) n c r h = tt
    sub_forms (WitnessIn l t s) n c r h = tt
    sub_forms (Define u) n c r h = tt
    sub_forms (Use l fs u) n c r h = tt
    sub_forms (Hide xs u) n c r h = tt

  known_closed : (n : ℕ) (ks : List Known) → RightKnown rank table may n ks → KnownClosed (map entry_of ks)
  known_closed n [] r = tt
  known_closed n (Assumption l f ∷ ks) r = (r.0.closed, known_closed n ks r.1)
  known_closed n (Earlier k f ∷ ks) r = (r.0.closed, known_closed n ks r.1)

  -- the leaves of a right theorem
  pub theorem_forms : (n : ℕ) (t : Theorem) → RightTheorem rank table may n t → AreForms (theorem_leaves table t)
  theorem_forms n t r =
      let is = t.statement.items in
      let g = t.statement.goal in
      proof_forms t.proof r.proof.0 (start t) r.proof.2
      (statement_closed rank table may n None is g (before_it t) r.statement (known_closed n t.known r.known, fact_closed rank table may n is g r.statement))
