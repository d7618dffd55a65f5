-- Values with their proofs, by tasks.
use Rattle.std.specs.Prelude.{◌≡◌, ℕ, ◌+◌, ◌*◌, ◌<◌, ◌≤◌, Bool, true, false, Option, Some, None, List, [], ◌∷◌, ◌++◌, length}
use Rattle.core_expr.specs.Tree.{Tree, not_, and_, or_, imp_, iff_}
use Rattle.core_expr.specs.Terms.{nodes}
use Rattle.seq_calculus.specs.Calculus.{Proof}
use Rattle.seq_calculus.specs.Calculus.Rule.{TrueR}
use Rattle.term_shapes.specs.declared.shape.Shape.{Shape}
use Rattle.term_shapes.specs.declared.shape.Shape.TheVariants as shape
use Rattle.search_definition.specs.Branches.{Branch}
use Rattle.search_definition.specs.Values.{Truth, Whole, opposite, both_true, one_true, implied, same_truth, truth_by, truth}
use Rattle.search_definition.specs.Values.Truth.{Unknown}
use Rattle.search_definition.specs.Values.Whole.{Undecided}
use Rattle.term_bank.specs.Banks.{tree_at}
use Rattle.core_expr.specs.Nodes.{picked}
use Rattle.proof_writer.specs.Written.{Written, count, opens}
use Rattle.proof_writer.specs.Shapes.{leaf, first_of, second_of, rest_of}
use Rattle.proof_trees.specs.Valued.{whole_by, not_by, and_by, or_by, imp_by, iff_by, shows, entries_of}
use Rattle.rule_proofs.specs.declared.value.Value.{Value}
use Rattle.rule_proofs.specs.declared.tasks.Task.{Task}
use Rattle.rule_proofs.specs.declared.tasks.Task.TheVariants.{Visit, Join}
use Rattle.rule_proofs.specs.Values.{truth_of}

-- the values that were found and the open proofs, the latest first
pub record Shown : Type 0 where
  pub values : List Truth
  pub proofs : List Proof

-- the formula's value and its proof come first
abbrev pub visited : Branch → Tree → Shown → Shown
visited e f s = record { values = truth e f ∷ s.values; proofs = shows e f ∷ s.proofs }

-- one value, or two, with their proofs, become one; too few stay
abbrev pub one_joined : (Truth → Truth) → (Truth → Proof → Proof) → List Truth → List Proof → Shown
one_joined op by [] ps = record { values = []; proofs = ps }
one_joined op by (x ∷ vs) ps = record { values = op x ∷ vs; proofs = by x (first_of ps) ∷ rest_of ps }

abbrev pub two_joined : (Truth → Truth → Truth) → (Truth → Truth → Proof → Proof → Proof) → List Truth → List Proof → Shown
two_joined op by [] ps = record { values = []; proofs = ps }
two_joined op by (y ∷ []) ps = record { values = y ∷ []; proofs = ps }
two_joined op by (y ∷ x ∷ vs) ps = record { values = op x y ∷ vs; proofs = by x y (second_of ps) (first_of ps) ∷ rest_of (rest_of ps) }

-- the connective's value and proof by those of its parts, which are the latest
abbrev pub joined : Tree → Shown → Shown
joined (not_ a) s = one_joined opposite (λ x. not_by x a) s.values s.proofs
joined (and_ a b) s = two_joined both_true (λ x y. and_by x y a b) s.values s.proofs
joined (or_ a b) s = two_joined one_true (λ x y. or_by x y a b) s.values s.proofs
joined (imp_ a b) s = two_joined implied (λ x y. imp_by x y a b) s.values s.proofs
joined (iff_ a b) s = two_joined same_truth (λ x y. iff_by x y a b) s.values s.proofs
joined f s = s

-- after a task
abbrev pub after : List Tree → Branch → Task → Shown → Shown
after ts e (Visit i) s = visited e (tree_at ts i) s
after ts e (Join i) s = joined (tree_at ts i) s

-- after these tasks, the last of them first
abbrev pub done : List Tree → Branch → List Task → Shown → Shown
done ts e [] s = s
done ts e (t ∷ tasks) s = after ts e t (done ts e tasks s)

-- values that are kept with the latest last
abbrev pub laid : List Truth → List Value → List Truth
laid acc [] = acc
laid acc (v ∷ vs) = laid (truth_of v ∷ acc) vs

-- the values and the open proofs
abbrev pub shown_of : List Value → List Proof → Shown
shown_of vs ps = record { values = laid [] vs; proofs = ps }

-- the tasks are of expressions below n
abbrev pub AreUnder : ℕ → List Task → Type 0
AreUnder n [] = Unit {0}
AreUnder n (Visit i ∷ tasks) = (i < n) × AreUnder n tasks
AreUnder n (Join i ∷ tasks) = (i < n) × AreUnder n tasks

-- more than the steps that the tasks take
abbrev pub weight : List Tree → Task → ℕ
weight ts (Visit i) = 2 * nodes (tree_at ts i)
weight ts (Join i) = 1

abbrev pub weights : List Tree → List Task → ℕ
weights ts [] = 0
weights ts (t ∷ tasks) = weight ts t + weights ts tasks

-- what is to do for the parts of a connective, its own task first
abbrev pub opened : Shape → ℕ → Option (List Task)
opened (shape.Not a) f = Some (Join f ∷ Visit a ∷ [])
opened (shape.And a b) f = Some (Join f ∷ Visit b ∷ Visit a ∷ [])
opened (shape.Or a b) f = Some (Join f ∷ Visit b ∷ Visit a ∷ [])
opened (shape.Imp a b) f = Some (Join f ∷ Visit b ∷ Visit a ∷ [])
opened (shape.Iff a b) f = Some (Join f ∷ Visit b ∷ Visit a ∷ [])
opened _ f = None

-- these tasks came to the others, or nothing did
abbrev pub IsOpened : Option (List Task) → Bool → List Task → List Task → Type 0
IsOpened None b old new = (b ≡ false) × (new ≡ old)
IsOpened (Some us) b old new = (b ≡ true) × (new ≡ old ++ us)

-- the value and the proof by a reason
abbrev pub whole_shown : Whole → Tree → Shown → Shown
whole_shown w f s = record { values = truth_by w Unknown ∷ s.values; proofs = whole_by w f (leaf TrueR) ∷ s.proofs }

-- after the task, what is left to do gives what it gave before; it is of the same expressions, and lighter
pub record IsTurn (ts : List Tree) (e : Branch) (t : Task) (old : List Task) (s : Shown) (new : List Task) (z : Shown) : Type 0 where
  pub done : done ts e new z ≡ done ts e old (after ts e t s)
  pub under : (n : ℕ) → AreUnder n (t ∷ old) → AreUnder n new
  pub lighter : weights ts new < weights ts old + weight ts t

-- the parts of the formula are to do, or it has no value
abbrev pub visited_as : Option (List Task) → Tree → List Task → Shown → List Task → Shown → Type 0
visited_as None t old s new z = (new ≡ old) × (z ≡ whole_shown Undecided t s)
visited_as (Some us) t old s new z = (new ≡ old ++ us) × (z ≡ s)

abbrev pub IsVisited : Shape → ℕ → Tree → List Task → Shown → List Task → Shown → Type 0
IsVisited x f t old s new z = visited_as (opened x f) t old s new z

-- what is shown so far: the tasks that are left make of it the value and the proof of the formula f over the proofs that were open
pub record IsShowing (v w : Written) (gs : List ℕ) (f : ℕ) (tasks : List Task) (values : List Value) : Type 0 where
  pub more : count v ≤ count w
  pub same : (i : ℕ) → i < count v → tree_at w.trees i ≡ tree_at v.trees i
  pub under : AreUnder (count v) tasks
  pub enough : length values ≤ length (opens w)
  pub done : done v.trees (entries_of (picked v.trees gs)) tasks (shown_of values (opens w)) ≡ visited (entries_of (picked v.trees gs)) (tree_at v.trees f) (shown_of [] (opens v))
