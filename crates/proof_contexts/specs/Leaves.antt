-- The leaves of a proof, in the order of the report, each with its place, its kind and its obligation.
use Rattle.std.specs.Prelude.{ℕ, Bool, true, false, ◌||◌, cond, List, [], ◌∷◌, ◌++◌, map}
use Rattle.core_expr.specs.declared.head.Head.{Head}
use Rattle.core_expr.specs.declared.head.Head.TheVariants as head
use Rattle.core_expr.specs.declared.canon.Canon.{Canon}
use Rattle.core_expr.specs.Tree.{Tree, Parts, imp_, in_}
use Rattle.core_expr.specs.Tree.Tree.{bound, app, node, bind}
use Rattle.core_expr.specs.Tree.Parts.{end, part}
use Rattle.tla_ast.specs.declared.place.Place.{Place}
use Rattle.seq_calculus.specs.Calculus.{Der}
use Rattle.obligation.specs.declared.obligation.Definition.{Definition}
use Rattle.obligation.specs.declared.obligation.Obligation.{Obligation}
use Rattle.proof_contexts.specs.declared.leaf.Leaf.{Leaf}
use Rattle.proof_contexts.specs.declared.leaf.LeafKind.{LeafKind}
use Rattle.proof_contexts.specs.declared.leaf.LeafKind.TheVariants as kind
use Rattle.proof_contexts.specs.Expansion.{chosen, full}
use Rattle.proof_contexts.specs.Canonical.{obligation_canon}
use Rattle.proof_contexts.specs.Steps.{Fact, Proof, Steps, Step}
use Rattle.proof_contexts.specs.Steps.Fact.{Cited, Plain}
use Rattle.proof_contexts.specs.Steps.Proof.{Missing, Omitted, Obvious, By, Stepped}
use Rattle.proof_contexts.specs.Steps.Steps.{Qed, Next}
use Rattle.proof_contexts.specs.Steps.Step.{Assert, Case, Suffices, Have, WitnessIn, Pick, Use}
use Rattle.proof_contexts.specs.Contexts.{Context, usable_of, cited_of, as_imp, given, unfolded_by, ex_in, top, inside, after}

-- ---- what is temporal

abbrev pub is_mark : Head → Bool
is_mark head.Temporal = true
is_mark _ = false

-- the mark of a temporal operator, ENABLED, WF_ or SF_ stands in the expression
abbrev mutual
  pub has_mark : Tree → Bool
  has_mark (bound i) = false
  has_mark (app f ps) = have_mark ps
  has_mark (node h ns ps) = is_mark h || have_mark ps
  has_mark (bind b ps e) = have_mark ps || has_mark e

  pub have_mark : Parts → Bool
  have_mark end = false
  have_mark (part e ps) = has_mark e || have_mark ps

abbrev pub any_mark : List Tree → Bool
any_mark [] = false
any_mark (e ∷ es) = has_mark e || any_mark es

-- ---- leaves

abbrev pub a_leaf : Place → LeafKind → Leaf
a_leaf p k = record { place = p; kind = k }

-- the definitions of all modules, in order of declaration
module _ (table : List Definition) where
  -- one of the formulas is temporal, fully expanded or with the definitions of these numbers unfolded
  abbrev pub is_temporal : List ℕ → List Tree → Bool
  is_temporal u es = any_mark (map (full table) es) || any_mark (map (unfolded_by table u) es)

  -- a goal from facts, with the definitions of these numbers
  abbrev pub obligation : List Tree → Tree → List ℕ → Obligation
  obligation fs g u = record { facts = fs; goal = g; defs = chosen u table }

  -- the leaf that has to show it
  abbrev pub leaf : Place → List Tree → Tree → List ℕ → Leaf
  leaf p fs g u = a_leaf p (cond (is_temporal u (g ∷ fs)) kind.Temporal (kind.Search (obligation fs g u)))

  -- a leaf for each expression among facts, from these formulas
  abbrev pub plain_leaves : List Tree → List ℕ → List Fact → List Leaf
  plain_leaves g u [] = []
  plain_leaves g u (Cited x ∷ fs) = plain_leaves g u fs
  plain_leaves g u (Plain p e ∷ fs) = leaf p g e u ∷ plain_leaves g u fs

  -- that of the goal: from the usable facts and then the cited ones, with the usable definitions and those after DEF; with ONLY from
  -- the cited facts, with the definitions after DEF
  abbrev pub main_leaf : Place → Context → Bool → List Fact → List ℕ → Leaf
  main_leaf p c true fs u = leaf p (cited_of c.known fs) c.goal u
  main_leaf p c false fs u = leaf p (usable_of c.known ++ cited_of c.known fs) c.goal (c.defs ++ u)

  -- the leaves of a step that has no proof of its own
  abbrev pub own_leaves : Place → Step → Context → List Leaf
  own_leaves p (Have l f) c =
      given (as_imp (top table c)) [] (λ q. leaf p (usable_of c.known) (imp_ q.first f) c.defs ∷ [])
  own_leaves p (WitnessIn l t s) c =
      given (ex_in table c s (top table c)) [] (λ _. leaf p (usable_of c.known) (in_ t s) c.defs ∷ [])
  own_leaves p (Use l fs u) c = plain_leaves (usable_of c.known) (c.defs ++ u) fs
  own_leaves p _ c = []

  -- the leaves of a proof in a context, in the order of the text but for that of the goal of BY, which is the last of its own
  abbrev mutual
    pub leaves : Proof → Context → List Leaf
    leaves (Missing p) c = a_leaf p kind.Missing ∷ []
    leaves (Omitted p) c = a_leaf p kind.Omitted ∷ []
    leaves (Obvious p) c = leaf p (usable_of c.known) c.goal c.defs ∷ []
    leaves (By p only fs u) c = plain_leaves (usable_of c.known) (c.defs ++ u) fs ++ main_leaf p c only fs u ∷ []
    leaves (Stepped ss) c = step_leaves ss c

    -- where the goal has not the form that a step asks for, one leaf of that kind stands for the rest of the steps
    pub step_leaves : Steps → Context → List Leaf
    step_leaves (Qed p) c = leaves p c
    step_leaves (Next p s ss) c =
        (sub_leaves s c ++ own_leaves p s c) ++ given (after table s c) (a_leaf p kind.Shape ∷ []) (λ d. step_leaves ss d)

    -- the leaves of the step's own proof
    pub sub_leaves : Step → Context → List Leaf
    sub_leaves (Assert l s p) c = leaves p (inside table (Assert l s p) c)
    sub_leaves (Case l f p) c = leaves p (inside table (Case l f p) c)
    sub_leaves (Suffices l s p) c = leaves p (inside table (Suffices l s p) c)
    sub_leaves (Pick l is f p) c = leaves p (inside table (Pick l is f p) c)
    sub_leaves _ c = []

-- ---- proved leaves

-- the goal has a derivation from the facts
abbrev pub IsDerived : Canon → Type 0
IsDerived c = Der c.facts (c.goal ∷ [])

-- the obligation is to be proved, and its canonical form has a derivation
abbrev pub IsProved : LeafKind → Type 0
IsProved (kind.Search o) = IsDerived (obligation_canon o)
IsProved kind.Missing = ⊥
IsProved kind.Omitted = ⊥
IsProved kind.Temporal = ⊥
IsProved kind.Shape = ⊥

abbrev pub AreProved : List Leaf → Type 0
AreProved [] = Unit {0}
AreProved (l ∷ ls) = IsProved l.kind × AreProved ls
