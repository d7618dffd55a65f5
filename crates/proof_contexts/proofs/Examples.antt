-- Small proofs, with the leaves and statuses that the definitions give.
use Rattle.std.specs.Prelude.{◌≡◌, ℕ, true, false, Some, None, List, [], ◌∷◌}
use Rattle.std.proofs.Common.{refl}
use Rattle.core_expr.specs.declared.head.Sym.{Sym}
use Rattle.core_expr.specs.declared.head.SymKind.TheVariants as kinds
use Rattle.core_expr.specs.Tree.{Tree, apply_, power_, funset_, filter_, imp_, all_, ex_, in_, and_, not_, eq_}
use Rattle.core_expr.specs.Tree.Tree.{bound, app}
use Rattle.core_expr.specs.Tree.Parts.{end, part}
use Rattle.core_expr.specs.Nodes.{canon_sym}
use Rattle.tla_ast.specs.declared.place.Place.{Place}
use Rattle.obligation.specs.declared.obligation.Definition.{Definition}
use Rattle.proof_contexts.specs.declared.leaf.Leaf.{Leaf}
use Rattle.proof_contexts.specs.declared.leaf.LeafKind.TheVariants as kind
use Rattle.proof_contexts.specs.Canonical.{obligation_canon}
use Rattle.proof_contexts.specs.Steps.{Item, Proof}
use Rattle.proof_contexts.specs.Steps.Item.{New, NewIn, Given}
use Rattle.proof_contexts.specs.Steps.Fact.{Cited}
use Rattle.proof_contexts.specs.Steps.Proof.{Obvious, Omitted, By, Stepped}
use Rattle.proof_contexts.specs.Steps.Steps.{Qed, Next}
use Rattle.proof_contexts.specs.Steps.Step.{Case, Suffices, TakeIn, WitnessIn, Pick, Define, Have}
use Rattle.proof_contexts.specs.Leaves.{a_leaf}
use Rattle.proof_contexts.specs.Statuses.{Verdict, Status, statuses}
use Rattle.proof_contexts.specs.Statuses.Status.{By_leaf, Conditional}
use Rattle.proof_contexts.specs.Theorems.{Known, Theorem, fact, theorem_leaves}

-- the place of a step or a word, by its line
abbrev line : ℕ → Place
line n = record { line = n; column = 1 }

abbrev constant : ℕ → ℕ → Sym
constant i a = record { kind = kinds.Constant; number = i; arity = a }

abbrev con : ℕ → Tree
con i = app (constant i 0) end

abbrev r : Tree → Tree → Tree
r a b = app (constant 1 2) (part a (part b end))

abbrev a_theorem : List Item → Tree → Proof → Theorem
a_theorem is g p = record { key = 0; known = []; statement = record { items = is; goal = g }; proof = p }

abbrev searched : ℕ → List Tree → Tree → List Definition → Leaf
searched n fs g ds = a_leaf (line n) (kind.Search (record { facts = fs; goal = g; defs = ds }))

-- SUFFICES and PICK: ASSUME \A x : x \in S => \E y : R(x, y) PROVE \A x \in S : \E y : R(x, y)
abbrev choices : Tree
choices = all_ (imp_ (in_ (bound 0) (con 0)) (ex_ (r (bound 1) (bound 0))))

abbrev choosing : Theorem
choosing = a_theorem (Given choices ∷ []) choices
    (Stepped
    (Next (line 4) (Suffices None (record { items = NewIn (constant 2 0) (con 0) ∷ []; goal = ex_ (r (con 2) (bound 0)) }) (Obvious (line 4)))
    (Next (line 5) (Pick None (New (constant 3 0) ∷ []) (r (con 2) (con 3)) (Obvious (line 5)))
    (Qed (Obvious (line 6))))))

choosing_leaves : theorem_leaves [] choosing
    ≡ searched 4 (choices ∷ choices ∷ []) choices []
    ∷ searched 5 (choices ∷ in_ (con 2) (con 0) ∷ []) (ex_ (r (con 2) (bound 0))) []
    ∷ searched 6 (choices ∷ in_ (con 2) (con 0) ∷ r (con 2) (con 3) ∷ []) (ex_ (r (con 2) (bound 0))) []
    ∷ []
choosing_leaves = refl

choosing_fact : fact choosing ≡ imp_ choices choices
choosing_fact = refl

-- a step's own fact is usable inside of it where it is cited, or where the step has no label; the last fact is the cases' without a label
cases_leaves : theorem_leaves [] (a_theorem (Given (imp_ (con 0) (con 1)) ∷ []) (con 1)
    (Stepped
    (Next (line 4) (Case (Some 1) (con 0) (Obvious (line 4)))
    (Next (line 5) (Case (Some 2) (con 0) (By (line 5) false (Cited 2 ∷ []) []))
    (Next (line 6) (Case None (con 0) (Obvious (line 6)))
    (Qed (Obvious (line 7))))))))
    ≡ searched 4 (imp_ (con 0) (con 1) ∷ []) (con 1) []
    ∷ searched 5 (imp_ (con 0) (con 1) ∷ con 0 ∷ []) (con 1) []
    ∷ searched 6 (imp_ (con 0) (con 1) ∷ con 0 ∷ []) (con 1) []
    ∷ searched 7 (imp_ (con 0) (con 1) ∷ imp_ (con 0) (con 1) ∷ []) (con 1) []
    ∷ []
cases_leaves = refl

-- HAVE where the goal is no implication
shape_leaves : theorem_leaves [] (a_theorem [] (con 0) (Stepped (Next (line 4) (Have None (con 0)) (Qed (Obvious (line 5)))))) ≡ a_leaf (line 4) kind.Shape ∷ []
shape_leaves = refl

-- Cantor: S is 0, f is 1, D is 2, x is 3
abbrev sets : Tree
sets = power_ (con 0)

abbrev cantor_goal : Tree
cantor_goal = all_ (imp_ (in_ (bound 0) (funset_ (con 0) sets)) (ex_ (and_ (in_ (bound 0) sets) (all_ (imp_ (in_ (bound 0) (con 0)) (not_ (eq_ (apply_ (bound 2) (bound 0)) (bound 1))))))))

abbrev diagonal : Definition
diagonal = record { symbol = constant 2 0; body = filter_ (con 0) (not_ (in_ (bound 0) (apply_ (con 1) (bound 0)))) }

abbrev f_in : Tree
f_in = in_ (con 1) (funset_ (con 0) sets)

cantor_leaves : theorem_leaves (diagonal ∷ []) (a_theorem [] cantor_goal
    (Stepped
    (Next (line 4) (TakeIn None (constant 1 0) (funset_ (con 0) sets))
    (Next (line 5) (Define (2 ∷ []))
    (Next (line 6) (WitnessIn None (con 2) sets)
    (Next (line 7) (TakeIn None (constant 3 0) (con 0))
    (Qed (Obvious (line 8)))))))))
    ≡ searched 6 (f_in ∷ []) (in_ (con 2) sets) (diagonal ∷ [])
    ∷ searched 8 (f_in ∷ in_ (con 2) sets ∷ in_ (con 3) (con 0) ∷ []) (not_ (eq_ (apply_ (con 1) (con 3)) (con 2))) (diagonal ∷ [])
    ∷ []
cantor_leaves = refl

-- the first one's canonical form: f, S, and then the definition unfolded; a fact that stands twice is there once
abbrev nth : ℕ → Tree
nth n = app (canon_sym n 0) end

cantor_canon : obligation_canon (record { facts = f_in ∷ f_in ∷ []; goal = in_ (con 2) sets; defs = diagonal ∷ [] })
    ≡ record {
      facts = in_ (nth 0) (funset_ (nth 1) (power_ (nth 1))) ∷ [];
      goal = in_ (filter_ (nth 1) (not_ (in_ (bound 0) (apply_ (nth 0) (bound 0))))) (power_ (nth 1));
    }
cantor_canon = refl

-- a theorem that cites another
abbrev cited : Proof → Theorem
cited p = record { key = 1; known = []; statement = record { items = []; goal = imp_ (con 0) (con 0) }; proof = p }

abbrev citing : Theorem
citing =
    record {
      key = 2;
      known = Known.Earlier 1 (imp_ (con 0) (con 0)) ∷ [];
      statement = record { items = []; goal = imp_ (con 0) (con 0) };
      proof = By (line 5) false (Cited 1 ∷ []) [];
    }

abbrev reported : Proof → List Status
reported p = statuses [] (λ k. true) (λ c. Verdict.Proved) [] (cited p ∷ citing ∷ [])

omitted_then_conditional : reported (Omitted (line 4)) ≡ By_leaf Verdict.Omitted ∷ Conditional 1 ∷ []
omitted_then_conditional = refl

both_proved : reported (Obvious (line 4)) ≡ By_leaf Verdict.Proved ∷ By_leaf Verdict.Proved ∷ []
both_proved = refl
