-- Contexts: what is known, which definitions are usable and what is the goal, inside of a step and after it.
use Rattle.std.specs.Prelude.{ℕ, Bool, true, false, ◌||◌, ◌&&◌, not, cond, Option, Some, None, List, [], ◌∷◌, ◌++◌, map}
use Rattle.core_expr.specs.Tree.{Tree, and_, imp_, all_, ex_, in_}
use Rattle.core_expr.specs.Tree.Tree.{bound}
use Rattle.core_expr.specs.Put.{inst}
use Rattle.core_expr.specs.Terms.{same}
use Rattle.obligation.specs.declared.obligation.Definition.{Definition}
use Rattle.obligation.specs.Unfolding.{unfolded}
use Rattle.proof_contexts.specs.Expansion.{has_number, chosen, unfold_head, abstract, name}
use Rattle.proof_contexts.specs.Steps.{Item, Fact, Step}
use Rattle.proof_contexts.specs.Steps.Item.{New, NewIn, Given}
use Rattle.proof_contexts.specs.Steps.Fact.{Cited, Plain}
use Rattle.proof_contexts.specs.Steps.Step.{Assert, Case, Suffices, Have, Take, TakeIn, Witness, WitnessIn, Pick, Define, Use, Hide}

-- A known fact. Keys are the names that give it where they are cited, marks those by which USE and HIDE find it.
pub record Entry : Type 0 where
  pub formula : Tree
  pub keys : List ℕ
  pub marks : List ℕ
  pub usable : Bool

-- the known facts in order, the numbers of the usable definitions, and the goal
pub record Context : Type 0 where
  pub known : List Entry
  pub defs : List ℕ
  pub goal : Tree

-- ---- facts of a step

-- the name of a step, if it has a label
abbrev pub names_of : Option ℕ → List ℕ
names_of None = []
names_of (Some k) = k ∷ []

abbrev pub is_unlabelled : Option ℕ → Bool
is_unlabelled None = true
is_unlabelled (Some k) = false

-- a fact of a step: usable at once where the step has no label
abbrev pub told : Option ℕ → Tree → Entry
told l f = record { formula = f; keys = names_of l; marks = names_of l; usable = is_unlabelled l }

-- a fact of a step that is usable at once, as a domain is
abbrev pub usable : Option ℕ → Tree → Entry
usable l f = record { formula = f; keys = names_of l; marks = names_of l; usable = true }

-- one more known fact, behind the others
abbrev pub add : Context → Entry → Context
add c e = record { known = c.known ++ e ∷ []; defs = c.defs; goal = c.goal }

abbrev pub with_goal : Context → Tree → Context
with_goal c g = record { known = c.known; defs = c.defs; goal = g }

abbrev pub with_known : Context → List Entry → Context
with_known c k = record { known = k; defs = c.defs; goal = c.goal }

abbrev pub with_defs : Context → List ℕ → Context
with_defs c u = record { known = c.known; defs = u; goal = c.goal }

-- ---- items

-- the fact of a statement, built from the right: a binder for each NEW name, an implication for each assumption and each domain
abbrev pub fact_of : List Item → Tree → Tree
fact_of [] g = g
fact_of (New x ∷ is) g = all_ (abstract x (fact_of is g))
fact_of (NewIn x s ∷ is) g = all_ (abstract x (imp_ (in_ (name x) s) (fact_of is g)))
fact_of (Given a ∷ is) g = imp_ a (fact_of is g)

-- what PICK shows: that there are values of its names, in their sets, of which the formula holds
abbrev pub picked : List Item → Tree → Tree
picked [] g = g
picked (New x ∷ is) g = ex_ (abstract x (picked is g))
picked (NewIn x s ∷ is) g = ex_ (abstract x (and_ (in_ (name x) s) (picked is g)))
picked (Given a ∷ is) g = and_ a (picked is g)

-- the context with the domains and assumptions of items, which are facts of the step
abbrev pub with_items : Option ℕ → List Item → Context → Context
with_items l [] c = c
with_items l (New x ∷ is) c = with_items l is c
with_items l (NewIn x s ∷ is) c = with_items l is (add c (usable l (in_ (name x) s)))
with_items l (Given a ∷ is) c = with_items l is (add c (told l a))

-- ---- facts that are cited, used and hidden

-- the facts that are usable
abbrev pub usable_of : List Entry → List Tree
usable_of [] = []
usable_of (e ∷ k) = cond e.usable (e.formula ∷ usable_of k) (usable_of k)

-- the facts that a name gives
abbrev pub named : ℕ → List Entry → List Tree
named x [] = []
named x (e ∷ k) = cond (has_number e.keys x) (e.formula ∷ named x k) (named x k)

-- the formulas of facts after BY: what each name gives, and each expression
abbrev pub cited_of : List Entry → List Fact → List Tree
cited_of k [] = []
cited_of k (Cited x ∷ fs) = named x k ++ cited_of k fs
cited_of k (Plain p e ∷ fs) = e ∷ cited_of k fs

-- a known fact after USE of the name x in a step named l: usable, and found by that step's name, where x is a name of it
abbrev pub used : Option ℕ → ℕ → Entry → Entry
used l x e =
    cond (has_number e.marks x) (record { formula = e.formula; keys = e.keys; marks = e.marks ++ names_of l; usable = true }) e

-- the name of a USE step gives the facts that it cites, in their order there
abbrev pub aliases : Option ℕ → List Tree → List Entry
aliases None fs = []
aliases (Some k) [] = []
aliases (Some k) (f ∷ fs) = record { formula = f; keys = k ∷ []; marks = []; usable = false } ∷ aliases (Some k) fs

-- the known facts after USE of facts: a name makes its facts usable where they stand, an expression is a further fact
abbrev pub use_facts : Option ℕ → List Fact → List Entry → List Entry
use_facts l [] k = k
use_facts l (Cited x ∷ fs) k = use_facts l fs (map (used l x) k ++ aliases l (named x k))
use_facts l (Plain p e ∷ fs) k = use_facts l fs (k ++ usable l e ∷ [])

abbrev pub has_any : List ℕ → List ℕ → Bool
has_any [] ys = false
has_any (x ∷ xs) ys = has_number ys x || has_any xs ys

-- a known fact after HIDE of these names
abbrev pub hidden : List ℕ → Entry → Entry
hidden xs e = record { formula = e.formula; keys = e.keys; marks = e.marks; usable = e.usable && not (has_any xs e.marks) }

-- the numbers that are none of these
abbrev pub without : List ℕ → List ℕ → List ℕ
without xs [] = []
without xs (y ∷ ys) = cond (has_number xs y) (without xs ys) (y ∷ without xs ys)

-- ---- forms of goals

-- the parts of a formula that joins two
pub record Pair : Type 0 where
  pub first : Tree
  pub second : Tree

abbrev pub as_all : Tree → Option Tree
as_all (all_ p) = Some p
as_all _ = None

abbrev pub as_ex : Tree → Option Tree
as_ex (ex_ p) = Some p
as_ex _ = None

abbrev pub as_imp : Tree → Option Pair
as_imp (imp_ a b) = Some (record { first = a; second = b })
as_imp _ = None

abbrev pub as_and : Tree → Option Pair
as_and (and_ a b) = Some (record { first = a; second = b })
as_and _ = None

abbrev pub as_in : Tree → Option Pair
as_in (in_ a b) = Some (record { first = a; second = b })
as_in _ = None

-- what follows from a value, where there is one
abbrev pub given : {A B : Type 0} → Option A → B → (A → B) → B
given None y f = y
given (Some x) y f = f x

-- ---- contexts by steps

-- the definitions of all modules, in order of declaration
module _ (table : List Definition) where
  -- the definitions with these numbers unfolded everywhere
  abbrev pub unfolded_by : List ℕ → Tree → Tree
  unfolded_by u e = unfolded (chosen u table) e

  -- two sets are equal once the usable definitions are unfolded in both
  abbrev pub same_set : Context → Tree → Tree → Bool
  same_set c s t = same (unfolded_by c.defs s) (unfolded_by c.defs t)

  -- P, where a membership is that of the bound variable in the set s
  abbrev pub if_within : Context → Tree → Pair → Tree → Option Tree
  if_within c s m p = cond (same m.first (bound 0) && same_set c m.second s) (Some p) None

  -- P, where the formula under a binder is x \in s => P, or x \in s /\ P
  abbrev pub within : Context → Tree → Option Pair → Option Tree
  within c s o = given o None (λ q. given (as_in q.first) None (λ m. if_within c s m q.second))

  -- the P of \A x \in s : P
  abbrev pub all_in : Context → Tree → Tree → Option Tree
  all_in c s e = given (as_all e) None (λ b. within c s (as_imp b))

  -- the P of \E x \in s : P
  abbrev pub ex_in : Context → Tree → Tree → Option Tree
  ex_in c s e = given (as_ex e) None (λ b. within c s (as_and b))

  -- the goal with its head unfolded by usable definitions
  abbrev pub top : Context → Tree
  top c = unfold_head (chosen c.defs table) c.goal

  -- the context of a step's own proof
  abbrev pub inside : Step → Context → Context
  inside (Assert l s p) c = with_goal (with_items l s.items c) s.goal
  inside (Case l f p) c = add c (told l f)
  inside (Suffices l s p) c = add c (usable l (fact_of s.items s.goal))
  inside (Pick l is f p) c = with_goal c (picked is f)
  inside _ c = c

  -- the context of the later steps; there is none where the goal has not the form that the step asks for
  abbrev pub after : Step → Context → Option Context
  after (Assert l s p) c = Some (add c (told l (fact_of s.items s.goal)))
  after (Case l f p) c = Some (add c (told l (imp_ f c.goal)))
  after (Suffices l s p) c = Some (with_goal (with_items l s.items c) s.goal)
  after (Have l f) c = given (as_imp (top c)) None (λ q. Some (with_goal (add c (told l f)) q.second))
  after (Take x) c = given (as_all (top c)) None (λ p. Some (with_goal c (inst p (name x))))
  after (TakeIn l x s) c =
      given (all_in c s (top c)) None (λ p. Some (with_goal (add c (usable l (in_ (name x) s))) (inst p (name x))))
  after (Witness t) c = given (as_ex (top c)) None (λ p. Some (with_goal c (inst p t)))
  after (WitnessIn l t s) c = given (ex_in c s (top c)) None (λ p. Some (with_goal (add c (told l (in_ t s))) (inst p t)))
  after (Pick l is f p) c = Some (add (with_items l is c) (told l f))
  after (Define u) c = Some (with_defs c (c.defs ++ u))
  after (Use l fs u) c = Some (with_defs (with_known c (use_facts l fs c.known)) (c.defs ++ u))
  after (Hide xs u) c = Some (with_defs (with_known c (map (hidden xs) c.known)) (without u c.defs))
