-- A run of the checker.
use Rattle.std.specs.Prelude.{◌≡◌, ℕ, suc, ◌+◌, ◌<◌, ◌≤◌, Bool, true, false, Option, Some, None, List, [], ◌∷◌, ◌++◌, length, take, reverse}
use Rattle.std.proofs.Common.{get_or}
use Rattle.core_expr.specs.Tree.{Tree}
use Rattle.core_expr.specs.Nodes.{picked}
use Rattle.seq_calculus.specs.Calculus.{HasAll, Rule, Proof, Proofs, Correct, AreCorrect, Fits, premises}
use Rattle.seq_calculus.specs.Calculus.Proof.{step}
use Rattle.seq_calculus.specs.Calculus.Proofs.{no_more, more}
use Rattle.seq_calculus.specs.Steps.{no_proof}
use Rattle.core_expr.specs.Heads.{IsCanonical}
use Rattle.term_bank.specs.Banks.{Extends}
use Rattle.proof_checker.specs.declared.side.Side.{Side}
use Rattle.proof_checker.specs.declared.task.Adds.{Adds}
use Rattle.proof_checker.specs.declared.task.Premise.{Premise}
use Rattle.proof_checker.specs.declared.task.Part.{Part}
use Rattle.proof_checker.specs.declared.task.Task.{Task}
use Rattle.proof_checker.specs.declared.task.Plan.{Plan}
use Rattle.proof_checker.specs.declared.task.Plan.TheVariants.{Closed, Single, Pair}
use Rattle.proof_checker.specs.Sides.{AreFormulas, AddsClosed, IsEntered, side, part_side, seen, IsPart}
use Rattle.proof_checker.specs.Plans.{sequents, PlanBelow, AreSides}

-- the number of steps of a proof
abbrev mutual
  pub steps_in : Proof → ℕ
  steps_in (step r ps) = suc (steps_in_all ps)

  pub steps_in_all : Proofs → ℕ
  steps_in_all no_more = 0
  steps_in_all (more p ps) = steps_in p + steps_in_all ps

-- the number of steps of the proofs of these tasks
abbrev pub work : List Proof → List Task → ℕ
work ps [] = 0
work ps (k ∷ ks) = steps_in (get_or ps k.step no_proof) + work ps ks

-- what a task claims over the two trails
abbrev pub Claim : List Tree → List Proof → List ℕ → List ℕ → Task → Type 0
Claim ts ps l r k = Correct (get_or ps k.step no_proof) (part_side ts k.left l) (part_side ts k.right r)

abbrev pub Claims : List Tree → List Proof → List ℕ → List ℕ → List Task → Type 0
Claims ts ps l r [] = Unit {0}
Claims ts ps l r (k ∷ ks) = Claim ts ps l r k × Claims ts ps l r ks

-- a task of one of so many steps over a bank of so many trees
pub record IsTask (n steps low low' : ℕ) (k : Task) : Type 0 where
  pub step : k.step < steps
  pub left : IsPart n low k.left
  pub right : IsPart n low' k.right

-- each task stands on numbers that the later ones leave
abbrev pub AreStacked : ℕ → ℕ → ℕ → ℕ → ℕ → ℕ → List Task → Type 0
AreStacked n steps low low' l r [] = (low ≤ l) × (low' ≤ r)
AreStacked n steps low low' l r (k ∷ ks) = IsTask n steps low low' k × AreStacked n steps k.left.count k.right.count l r ks

-- the part of a side as it is, with what is added
abbrev pub part_of : Side → Adds → Part
part_of s a = record { base = s.base; count = length s.trail; adds = a }

-- the task of a premise over two sides
abbrev pub task_for : ℕ → Premise → Side → Side → Task
task_for i x l r = record { step = i; left = part_of l x.left; right = part_of r x.right }

-- the tasks of a plan's premises, the first last, are put on the list; or there are not as many steps
abbrev pub IsPushed : Plan → List ℕ → Side → Side → List Task → List Task → Bool → Type 0
IsPushed Closed [] l r old new b = (b ≡ true) × (new ≡ old)
IsPushed (Single x) (i ∷ []) l r old new b = (b ≡ true) × (new ≡ old ++ task_for i x l r ∷ [])
IsPushed (Pair x y) (i ∷ j ∷ []) l r old new b = (b ≡ true) × (new ≡ old ++ task_for j y l r ∷ task_for i x l r ∷ [])
IsPushed p is l r old new b = b ≡ false

-- both sides begin anew with these; or one of these is not there
abbrev pub Weakens : List Tree → Side → Side → List ℕ → List ℕ → Side → Side → Bool → Type 0
Weakens ts l r is js l' r' true =
    (HasAll (seen ts l) (picked ts is) × HasAll (seen ts r) (picked ts js))
    × ((l' ≡ record { trail = l.trail ++ reverse is; base = length l.trail }) × (r' ≡ record { trail = r.trail ++ reverse js; base = length r.trail }))
Weakens ts l r is js l' r' false = HasAll (seen ts l) (picked ts is) → HasAll (seen ts r) (picked ts js) → ⊥

-- a side has grown to a side with formulas of the bank
pub record IsGrown (ts : List Tree) (s s' : Side) : Type 0 where
  pub more : (xs : List ℕ) × (s'.trail ≡ s.trail ++ xs)
  pub base : s'.base ≤ length s'.trail
  pub formulas : AreFormulas ts s'.trail

-- A rule over two sides that may have grown: its premises where it fits; or no premises of it are proved.
abbrev pub Moves : List Tree → List Tree → Rule → Side → Side → Side → Side → Option Plan → Type 0
Moves ts ts' rule l r l' r' (Some p) =
    Fits rule (seen ts l) (seen ts r) × (premises rule (seen ts l) (seen ts r) ≡ sequents ts' p (seen ts' l') (seen ts' r')) × PlanBelow (length ts') p × IsGrown ts' l l' × IsGrown ts' r r' × Extends ts ts'
Moves ts ts' rule l r l' r' None = (ps : Proofs) → Fits rule (seen ts l) (seen ts r) → AreCorrect ps (premises rule (seen ts l) (seen ts r)) → ⊥

-- the task that is worked on, over trails of these lengths
pub record IsTop (n steps l r : ℕ) (k : Task) : Type 0 where
  pub task : IsTask n steps 0 0 k
  pub left : k.left.count ≤ l
  pub right : k.right.count ≤ r

-- what a task adds is closed
abbrev pub AreAddsClosed : List Tree → Task → Type 0
AreAddsClosed ts k = AddsClosed ts k.left.adds × AddsClosed ts k.right.adds

-- both sides are those of the task
pub record AreEntered (ts : List Tree) (k : Task) (l r : List ℕ) (s t : Side) : Type 0 where
  pub left : IsEntered k.left l s
  pub right : IsEntered k.right r t
  pub sides : AreSides ts s t
  pub left_base : s.base ≤ length s.trail
  pub right_base : t.base ≤ length t.trail

-- a rule over two sides, and the tasks of its premises where it fits and has as many steps
abbrev pub PutFor : Option Plan → List ℕ → Side → Side → List Task → List Task → Bool → Type 0
PutFor None is l r old new b = b ≡ false
PutFor (Some p) is l r old new b = IsPushed p is l r old new b

pub record IsPut (ts ts' : List Tree) (rule : Rule) (l r l' r' : Side) (is : List ℕ) (old new : List Task) (b : Bool) : Type 0 where
  pub plan : Option Plan
  pub moves : Moves ts ts' rule l r l' r' plan
  pub put : PutFor plan is l' r' old new b

-- New tasks are as much as the task k: the trees of the bank stay, the trails keep what stands below the task, and the new tasks
-- stand on that.
pub record IsTurn (ts ts' : List Tree) (ps : List Proof) (steps : ℕ) (l r : List ℕ) (k : Task) (l' r' : List ℕ) (old todo : List Task) : Type 0 where
  pub tasks : List Task
  pub todo_is : todo ≡ old ++ tasks
  pub extends : Extends ts ts'
  pub left : (more : List ℕ) × (l' ≡ take k.left.count l ++ more)
  pub right : (more : List ℕ) × (r' ≡ take k.right.count r ++ more)
  pub formulas : AreFormulas ts' l' × AreFormulas ts' r'
  pub stacked : AreStacked (length ts') steps k.left.count k.right.count (length l') (length r') tasks
  pub to : Claim ts ps l r k → Claims ts' ps l' r' tasks
  pub from : Claims ts' ps l' r' tasks → Claim ts ps l r k
  pub less : work ps tasks < work ps (k ∷ [])

-- what is left to check is as much as the root's claim
pub record IsRun (ts : List Tree) (ps : List Proof) (steps : ℕ) (l r : List ℕ) (todo : List Task) (root : Type 0) : Type 0 where
  pub left : AreFormulas ts l
  pub right : AreFormulas ts r
  pub stacked : AreStacked (length ts) steps 0 0 (length l) (length r) todo
  pub to : root → Claims ts ps l r todo
  pub from : Claims ts ps l r todo → root

-- the symbols of each are those of a canonical form, and there is no temporal mark
abbrev pub AreCanonical : List Tree → Type 0
AreCanonical [] = Unit {0}
AreCanonical (e ∷ es) = IsCanonical e × AreCanonical es

-- the side is these facts
pub record AreFacts (ts : List Tree) (s : Side) (facts : List Tree) : Type 0 where
  pub formulas : AreFormulas ts s.trail
  pub base : s.base ≡ 0
  pub trees : side ts s.trail ≡ facts
