-- The proofs of steps, and the tasks of their premises.
use Rattle.std.proofs.Common.{◌≡◌, ℕ, zero, suc, ◌+◌, ◌<◌, ◌≤◌, true, false, List, [], ◌∷◌, ◌++◌, length, get_or, drop, refl, ap, sym, ◌∙◌, arith, subst, append_assoc, append-nil}
use Rattle.std.proofs.lemmas.List.{get_or_append_left, get_or_at, length_push, take_all}
use Rattle.core_expr.specs.Tree.{Tree}
use Rattle.core_expr.specs.Nodes.{AreBelow, picked}
use Rattle.seq_calculus.specs.Calculus.{Proof, Correct, AreCorrect, AllClosed}
use Rattle.seq_calculus.specs.Calculus.Proof.{step}
use Rattle.seq_calculus.specs.Calculus.Proofs.{more}
use Rattle.seq_calculus.specs.Lists.{IsStep, AreSteps}
use Rattle.seq_calculus.specs.Steps.{rule_of, no_proof, proofs_at, proof_in, proofs_from, proofs_of}
use Rattle.seq_calculus.specs.declared.lists.ProofStep.{ProofStep}
use Rattle.proof_checker.specs.Sides.{side, added, seen, AddsBelow, IsPart, part_side}
use Rattle.proof_checker.specs.Plans.{sequents, PremiseBelow, PlanBelow}
use Rattle.proof_checker.specs.Runs.{steps_in_all, work, Claim, Claims, IsTask, AreStacked, part_of, task_for, IsPushed}
use Rattle.proof_checker.specs.declared.side.Side.{Side}
use Rattle.proof_checker.specs.declared.task.Adds.{Adds}
use Rattle.proof_checker.specs.declared.task.Premise.{Premise}
use Rattle.proof_checker.specs.declared.task.Plan.{Plan}
use Rattle.proof_checker.specs.declared.task.Plan.TheVariants.{Closed, Single, Pair}
use Rattle.proof_checker.specs.declared.task.Task.{Task}

same_proofs : (n : ℕ) (ps qs : List Proof) (is : List ℕ) → AreBelow n is → ((j : ℕ) → j < n → get_or ps j no_proof ≡ get_or qs j no_proof) → proofs_at ps is ≡ proofs_at qs is
same_proofs n ps qs [] b e = refl
same_proofs n ps qs (i ∷ is) b e = λ k. more (e i b.0 k) (same_proofs n ps qs is b.1 e k)

grown : (ts : List Tree) (ps : List Proof) (ss : List ProofStep) → (qs : List Proof) × (proofs_from ts ps ss ≡ ps ++ qs)
grown ts ps [] = ([], sym (append-nil ps))
grown ts ps (s ∷ ss) =
    let g = grown ts (ps ++ proof_in ts ps s ∷ []) ss in
    (proof_in ts ps s ∷ g.0, g.1 ∙ append_assoc ps (proof_in ts ps s ∷ []) g.0)

at_from : (ts : List Tree) (ps : List Proof) (ss : List ProofStep) (i n : ℕ) (d : ProofStep) → i < length ss → n ≡ length ps + i → AreBelow n (get_or ss i d).premises → get_or (proofs_from ts ps ss) n no_proof ≡ proof_in ts (proofs_from ts ps ss) (get_or ss i d)
at_from ts ps [] i n d h e a = absurd (omega arith)
at_from ts ps (s ∷ ss) zero n d h e a =
    let g = grown ts (ps ++ proof_in ts ps s ∷ []) ss in
    let w : proofs_from ts ps (s ∷ ss) ≡ ps ++ proof_in ts ps s ∷ g.0 = g.1 ∙ append_assoc ps (proof_in ts ps s ∷ []) g.0 in
    let l : length ps ≡ n = omega arith in
    ap (λ qs. get_or qs n no_proof) w ∙ get_or_at ps (proof_in ts ps s) g.0 no_proof n l
    ∙ ap (step (rule_of s.rule s.numbers (picked ts s.exprs))) (same_proofs n ps (proofs_from ts ps (s ∷ ss)) s.premises a (λ j m. sym (ap (λ qs. get_or qs j no_proof) w ∙ get_or_append_left ps (proof_in ts ps s ∷ g.0) no_proof j (omega arith))))
at_from ts ps (s ∷ ss) (suc i) n d h e a = at_from ts (ps ++ proof_in ts ps s ∷ []) ss i n d (omega arith) (omega (arith, length_push ps (proof_in ts ps s))) a

pub step_at : (m n k : ℕ) (ss : List ProofStep) (i : ℕ) (d : ProofStep) → AreSteps m n ss → i < length ss → k ≡ n + i → IsStep m k (get_or ss i d)
step_at m n k [] i d a l e = absurd (omega arith)
step_at m n k (s ∷ ss) zero d a l e = let q : n ≡ k = omega arith in subst (λ j. IsStep m j s) q a.0
step_at m n k (s ∷ ss) (suc i) d a l e = step_at m (suc n) k ss i d a.1 (omega arith) (omega arith)

-- the proof of a step is that of its rule over the proofs of its premises
pub proof_at : (ts : List Tree) (m : ℕ) (ss : List ProofStep) (i : ℕ) (d : ProofStep) → AreSteps m 0 ss → i < length ss → get_or (proofs_of ts ss) i no_proof ≡ proof_in ts (proofs_of ts ss) (get_or ss i d)
proof_at ts m ss i d a h = let s : IsStep m i (get_or ss i d) = step_at m 0 i ss i d a h (omega arith) in at_from ts [] ss i i d h (omega arith) s.premises

pub correct_closed : (p : Proof) (g d : List Tree) → Correct p g d → AllClosed g × AllClosed d
correct_closed (step r ps) g d c = (c.0, c.1)

-- the side of a premise's task
part_whole : (ts : List Tree) (s : Side) (a : Adds) → part_side ts (part_of s a) s.trail ≡ added ts a (seen ts s)
part_whole ts s a = ap (λ xs. added ts a (side ts (drop s.base xs))) (take_all (length s.trail) s.trail (omega arith))

pub claim_for : (ts : List Tree) (ps : List Proof) (i : ℕ) (x : Premise) (l r : Side) → Claim ts ps l.trail r.trail (task_for i x l r) ≡ Correct (get_or ps i no_proof) (added ts x.left (seen ts l)) (added ts x.right (seen ts r))
claim_for ts ps i x l r = λ k. Correct (get_or ps i no_proof) (part_whole ts l x.left k) (part_whole ts r x.right k)

-- tasks that are as much as the premises of a step
pub record AreTasks (ts : List Tree) (ps : List Proof) (steps low low' : ℕ) (l r : Side) (p : Plan) (is : List ℕ) (old new : List Task) : Type 0 where
  pub tasks : List Task
  pub new_is : new ≡ old ++ tasks
  pub to : AreCorrect (proofs_at ps is) (sequents ts p (seen ts l) (seen ts r)) → Claims ts ps l.trail r.trail tasks
  pub from : Claims ts ps l.trail r.trail tasks → AreCorrect (proofs_at ps is) (sequents ts p (seen ts l) (seen ts r))
  pub work_is : work ps tasks ≡ steps_in_all (proofs_at ps is)
  pub stacked : AreStacked (length ts) steps low low' (length l.trail) (length r.trail) tasks

part_is : (n low : ℕ) (s : Side) (a : Adds) → s.base ≤ length s.trail → low ≤ length s.trail → AddsBelow n a → IsPart n low (part_of s a)
part_is n low s a b l h = record { base = b; above = l; adds = h }

task_is : (n steps low low' i : ℕ) (x : Premise) (l r : Side) → i < steps → l.base ≤ length l.trail → r.base ≤ length r.trail → low ≤ length l.trail → low' ≤ length r.trail → PremiseBelow n x → IsTask n steps low low' (task_for i x l r)
task_is n steps low low' i x l r h b b' m m' a = record { step = h; left = part_is n low l x.left b m a.0; right = part_is n low' r x.right b' m' a.1 }

pub tasks_put : (ts : List Tree) (ps : List Proof) (steps low low' : ℕ) (l r : Side) (p : Plan) (is : List ℕ) (old new : List Task) → AreBelow steps is → l.base ≤ length l.trail → r.base ≤ length r.trail → low ≤ length l.trail → low' ≤ length r.trail → PlanBelow (length ts) p → IsPushed p is l r old new true → AreTasks ts ps steps low low' l r p is old new
tasks_put ts ps steps low low' l r Closed [] old new a b b' m m' q h = record {
  tasks = [];
  new_is = h.1 ∙ sym (append-nil old);
  to = λ c. tt;
  from = λ c. tt;
  work_is = refl;
  stacked = (m, m');
}
tasks_put ts ps steps low low' l r (Single x) (i ∷ []) old new a b b' m m' q h = record {
  tasks = task_for i x l r ∷ [];
  new_is = h.1;
  to = λ c. (coe 1 0 (k. claim_for ts ps i x l r k) c.0, tt);
  from = λ c. (coe 0 1 (k. claim_for ts ps i x l r k) c.0, tt);
  work_is = refl;
  stacked = (task_is (length ts) steps low low' i x l r a.0 b b' m m' q, (omega arith, omega arith));
}
tasks_put ts ps steps low low' l r (Pair x y) (i ∷ j ∷ []) old new a b b' m m' q h = record {
  tasks = task_for j y l r ∷ task_for i x l r ∷ [];
  new_is = h.1;
  to = λ c. (coe 1 0 (k. claim_for ts ps j y l r k) c.1.0, (coe 1 0 (k. claim_for ts ps i x l r k) c.0, tt));
  from = λ c. (coe 0 1 (k. claim_for ts ps i x l r k) c.1.0, (coe 0 1 (k. claim_for ts ps j y l r k) c.0, tt));
  work_is = omega arith;
  stacked = (task_is (length ts) steps low low' j y l r a.1.0 b b' m m' q.1, (task_is (length ts) steps (length l.trail) (length r.trail) i x l r a.0 b b' (omega arith) (omega arith) q.0, (omega arith, omega arith)));
}
tasks_put ts ps steps low low' l r p is old new a b b' m m' q h = cc

pub not_put : (ts : List Tree) (ps : List Proof) (l r : Side) (p : Plan) (is : List ℕ) (old new : List Task) (g d : List Tree) → IsPushed p is l r old new false → AreCorrect (proofs_at ps is) (sequents ts p g d) → ⊥
not_put ts ps l r Closed (i ∷ is) old new g d h c = c
not_put ts ps l r (Single x) [] old new g d h c = c
not_put ts ps l r (Single x) (i ∷ j ∷ is) old new g d h c = c.1
not_put ts ps l r (Pair x y) [] old new g d h c = c
not_put ts ps l r (Pair x y) (i ∷ []) old new g d h c = c.1
not_put ts ps l r (Pair x y) (i ∷ j ∷ k ∷ is) old new g d h c = c.1.1
not_put ts ps l r p is old new g d h c = cc
