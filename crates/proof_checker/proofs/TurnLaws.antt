-- A task is as much as those that are put for it.
use Rattle.std.proofs.Common.{◌≡◌, ℕ, zero, suc, ◌+◌, ◌<◌, ◌≤◌, Bool, true, false, IsTrue, Option, Some, None, List, [], ◌∷◌, ◌++◌, length, get_or, take, drop, reverse, refl, ap, sym, ◌∙◌, arith, subst, append-nil, append_assoc, length-append, cond}
use Rattle.std.proofs.lemmas.List.{drop_at, reverse-append, length-take-le, length-map}
use Rattle.std.proofs.lemmas.Bool.{false≢true}
use Rattle.core_expr.specs.Tree.{Tree}
use Rattle.core_expr.specs.Put.{IsScoped}
use Rattle.core_expr.specs.Nodes.{AreBelow, picked}
use Rattle.seq_calculus.specs.Calculus.{HasAll, AllClosed, Rule, Proof, Proofs, Correct, AreCorrect, schema_premise}
use Rattle.seq_calculus.specs.Calculus.Proofs.{no_more, more}
use Rattle.seq_calculus.specs.Calculus.Proof.{step}
use Rattle.seq_calculus.specs.Calculus.Rule.{Schema}
use Rattle.term_bank.proofs.TableLaws.{AreBelow-at, AreBelow-more}
use Rattle.seq_calculus.specs.Lists.{AreSteps, IsStep}
use Rattle.seq_calculus.specs.Steps.{of_lists, rule_of, no_proof, proofs_at, proof_in, proofs_of}
use Rattle.seq_calculus.specs.declared.lists.ProofStep.{ProofStep}
use Rattle.term_bank.specs.Banks.{Extends, tree_at}
use Rattle.proof_checker.specs.Sides.{side, seen, adds_list, AreFormulas, part_side, AddsClosed, IsEntered}
use Rattle.proof_checker.specs.Plans.{adding, sequents, AreSides, Plans, left_plan}
use Rattle.proof_checker.specs.Tables.{gathered}
use Rattle.proof_checker.specs.Schemas.{IsInstance}
use Rattle.proof_checker.specs.Runs.{steps_in, steps_in_all, work, Claim, IsPushed, Weakens, IsGrown, Moves, PutFor, IsPut, IsTop, AreEntered, AreAddsClosed, IsTurn}
use Rattle.proof_checker.specs.declared.side.Side.{Side}
use Rattle.proof_checker.specs.declared.task.Part.{Part}
use Rattle.proof_checker.specs.declared.task.Adds.TheVariants.{Nothing}
use Rattle.proof_checker.specs.declared.task.Plan.{Plan}
use Rattle.proof_checker.specs.declared.task.Plan.TheVariants.{Single}
use Rattle.proof_checker.specs.declared.task.Task.{Task}
use Rattle.proof_checker.proofs.SideLaws.{AreFormulas-append, AreFormulas-extend, Has-closed, seen_closed, seen-extend, seen_entered, entered_formulas, adds_closed, side_from-reverse}
use Rattle.proof_checker.proofs.ProofLaws.{proof_at, step_at, correct_closed, AreTasks, tasks_put, not_put}

-- sides that stay
stays : (ts ts' : List Tree) (s : Side) → Extends ts ts' → AreFormulas ts s.trail → s.base ≤ length s.trail → IsGrown ts' s s
stays ts ts' s x a b = record { more = ([], sym (append-nil s.trail)); base = b; formulas = AreFormulas-extend ts ts' s.trail x a }

pub moves_planned : (ts ts' : List Tree) (rule : Rule) (l r : Side) (o : Option Plan) → Extends ts ts' → AreSides ts l r → l.base ≤ length l.trail → r.base ≤ length r.trail → Plans ts' rule (seen ts l) (seen ts r) o → Moves ts ts' rule l r l r o
moves_planned ts ts' rule l r (Some p) x a b b' h =
    (h.0, h.1 ∙ (λ i. sequents ts' p (sym (seen-extend ts ts' l x a.0) i) (sym (seen-extend ts ts' r x a.1) i)), h.2, stays ts ts' l x a.0 b, stays ts ts' r x a.1 b', x)
moves_planned ts ts' rule l r None x a b b' h = h

-- the instance of a schema
first_closed : (ps : Proofs) (i : Tree) (g d : List Tree) → AreCorrect ps (schema_premise (Some i) g d) → IsScoped 0 i
first_closed no_more i g d h = absurd h
first_closed (more p ps) i g d h = (correct_closed p (i ∷ g) d h.0).0.0

pub schema_plans : (ts : List Tree) (k z : ℕ) (es g d : List Tree) (o : Option ℕ) → IsInstance ts k z es o → Plans ts (Schema k z es) g d (left_plan o)
schema_plans ts k z es g d (Some j) h = ((h.0, h.1), ap (λ o. schema_premise o g d) h.1 ∙ (λ n. record { left = sym h.2.tree n ∷ g; right = d } ∷ []), (h.2.within, tt))
schema_plans ts k z es g d None h = λ ps f q. h f.0 f.1 (first_closed ps f.0 g d (subst (λ o. AreCorrect ps (schema_premise o g d)) f.1 q))

-- weakening
pub picked-take : (ts : List Tree) (n : ℕ) (is : List ℕ) → picked ts (take n is) ≡ take n (picked ts is)
picked-take ts zero is = refl
picked-take ts (suc n) [] = refl
picked-take ts (suc n) (i ∷ is) = ap (λ us. tree_at ts i ∷ us) (picked-take ts n is)

pub picked-drop : (ts : List Tree) (n : ℕ) (is : List ℕ) → picked ts (drop n is) ≡ drop n (picked ts is)
picked-drop ts zero is = refl
picked-drop ts (suc n) [] = refl
picked-drop ts (suc n) (i ∷ is) = picked-drop ts n is

begun : (ts : List Tree) (s s' : Side) (is : List ℕ) → s' ≡ record { trail = s.trail ++ reverse is; base = length s.trail } → seen ts s' ≡ picked ts is
begun ts s s' is e = ap (seen ts) e ∙ ap (side ts) (drop_at s.trail (reverse is) (length s.trail) refl) ∙ side_from-reverse ts [] is ∙ append-nil (picked ts is)

items_formulas : (ts g : List Tree) (is : List ℕ) → AllClosed g → AreBelow (length ts) is → HasAll g (picked ts is) → AreFormulas ts is
items_formulas ts g [] c b h = tt
items_formulas ts g (i ∷ is) c b h = ((b.0, Has-closed g (tree_at ts i) c h.0), items_formulas ts g is c b.1 h.1)

AreFormulas-reverse : (ts : List Tree) (is : List ℕ) → AreFormulas ts is → AreFormulas ts (reverse is)
AreFormulas-reverse ts [] a = tt
AreFormulas-reverse ts (i ∷ is) a = subst (AreFormulas ts) (sym (reverse-append (i ∷ []) is)) (AreFormulas-append ts (reverse is) (i ∷ []) (AreFormulas-reverse ts is a.1) (a.0, tt))

grows : (ts : List Tree) (s s' : Side) (is : List ℕ) → AreFormulas ts s.trail → AreBelow (length ts) is → HasAll (seen ts s) (picked ts is) → s' ≡ record { trail = s.trail ++ reverse is; base = length s.trail } → IsGrown ts s s'
grows ts s s' is a b h e =
    let t : s'.trail ≡ s.trail ++ reverse is = ap (λ (u : Side). u.trail) e in
    let n : s'.base ≡ length s.trail = ap (λ (u : Side). u.base) e in
    record {
      more = (reverse is, t);
      base = omega (arith, ap length t, length-append s.trail (reverse is));
      formulas = subst (AreFormulas ts) (sym t) (AreFormulas-append ts s.trail (reverse is) a (AreFormulas-reverse ts is (items_formulas ts (seen ts s) is (seen_closed ts s a) b h)));
    }

pub moves_weakened : (ts : List Tree) (l r l' r' : Side) (n : ℕ) (ns os : List ℕ) (b : Bool) → n ≡ get_or ns 0 0 → AreSides ts l r → AreBelow (length ts) (take n os) → AreBelow (length ts) (drop n os) → Weakens ts l r (take n os) (drop n os) l' r' b → Moves ts ts (of_lists ns (picked ts os)) l r l' r' (cond b (Some (Single (adding Nothing Nothing))) None)
moves_weakened ts l r l' r' n ns os true e a bl br h =
    let p : picked ts (take n os) ≡ take (get_or ns 0 0) (picked ts os) = picked-take ts n os ∙ ap (λ m. take m (picked ts os)) e in
    let q : picked ts (drop n os) ≡ drop (get_or ns 0 0) (picked ts os) = picked-drop ts n os ∙ ap (λ m. drop m (picked ts os)) e in (
      (subst (HasAll (seen ts l)) p h.0.0, subst (HasAll (seen ts r)) q h.0.1),
      (λ i. record { left = (sym p ∙ sym (begun ts l l' (take n os) h.1.0)) i; right = (sym q ∙ sym (begun ts r r' (drop n os) h.1.1)) i } ∷ []),
      (tt, tt),
      grows ts l l' (take n os) a.0 bl h.0.0 h.1.0,
      grows ts r r' (drop n os) a.1 br h.0.1 h.1.1,
      ([], sym (append-nil ts)),
    )
moves_weakened ts l r l' r' n ns os false e a bl br h = λ ps f c.
    h (subst (HasAll (seen ts l)) (sym (picked-take ts n os ∙ ap (λ m. take m (picked ts os)) e)) f.0) (subst (HasAll (seen ts r)) (sym (picked-drop ts n os ∙ ap (λ m. drop m (picked ts os)) e)) f.1)

pub picked-at : (ts : List Tree) (is : List ℕ) (i : ℕ) → i < length is → tree_at ts (get_or is i 0) ≡ tree_at (picked ts is) i
picked-at ts [] i l = absurd (omega arith)
picked-at ts (x ∷ is) zero l = refl
picked-at ts (x ∷ is) (suc i) l = picked-at ts is i (omega arith)

-- the operands of a step
pub gathered-picked : (ts : List Tree) (places is : List ℕ) → AreBelow (length places) is → picked ts (gathered places is) ≡ picked (picked ts places) is
gathered-picked ts places [] b = refl
gathered-picked ts places (i ∷ is) b = λ k. picked-at ts places i b.0 k ∷ gathered-picked ts places is b.1 k

pub gathered-below : (n : ℕ) (places is : List ℕ) → AreBelow n places → AreBelow (length places) is → AreBelow n (gathered places is)
gathered-below n places [] a b = tt
gathered-below n places (i ∷ is) a b = (AreBelow-at n places i a b.0, gathered-below n places is a b.1)

pub this_step : (m : ℕ) (ss : List ProofStep) (i : ℕ) (s : ProofStep) → AreSteps m 0 ss → i < length ss → s ≡ get_or ss i s → IsStep m i s
this_step m ss i s a l e = subst (IsStep m i) (sym e) (step_at m 0 i ss i s a l (omega arith))

entered_base : (p : Part) (before : List ℕ) (s : Side) → p.base ≤ p.count → p.count ≤ length before → IsEntered p before s → s.base ≤ length s.trail
entered_base p before s b c e = omega (arith, e.base, ap length e.trail, length-append (take p.count before) (adds_list p.adds), length-take-le p.count before c)

pub entered : (ts : List Tree) (n : ℕ) (l r : Side) (k : Task) (s t : Side) → AreSides ts l r → IsTop (length ts) n (length l.trail) (length r.trail) k → IsEntered k.left l.trail s → IsEntered k.right r.trail t → AddsClosed ts k.left.adds → AddsClosed ts k.right.adds → AreEntered ts k l.trail r.trail s t
entered ts n l r k s t a top el er cl cr = record {
  left = el;
  right = er;
  sides = (entered_formulas ts k.left l.trail s a.0 top.task.left.adds cl el, entered_formulas ts k.right r.trail t a.1 top.task.right.adds cr er);
  left_base = entered_base k.left l.trail s top.task.left.base top.left el;
  right_base = entered_base k.right r.trail t top.task.right.base top.right er;
}

-- a task and its step, over a table
pub record IsWork (ts : List Tree) (places os : List ℕ) (ss : List ProofStep) (l r : List ℕ) (k : Task) (s : ProofStep) : Type 0 where
  pub steps : AreSteps (length places) 0 ss
  pub step_is : s ≡ get_or ss k.step s
  pub operands : os ≡ gathered places s.exprs
  pub top : IsTop (length ts) (length ss) (length l) (length r) k

proof_is : (ts : List Tree) (places os : List ℕ) (ss : List ProofStep) (l r : List ℕ) (k : Task) (s : ProofStep) → IsWork ts places os ss l r k s → get_or (proofs_of (picked ts places) ss) k.step no_proof ≡ step (rule_of s.rule s.numbers (picked ts os)) (proofs_at (proofs_of (picked ts places) ss) s.premises)
proof_is ts places os ss l r k s w =
    let ps = proofs_of (picked ts places) ss in
    let g = this_step (length places) ss k.step s w.steps w.top.task.step w.step_is in
    let q : picked (picked ts places) s.exprs ≡ picked ts os = sym (ap (picked ts) w.operands ∙ gathered-picked ts places s.exprs g.exprs) in
    proof_at (picked ts places) (length places) ss k.step s w.steps w.top.task.step ∙ ap (proof_in (picked ts places) ps) (sym w.step_is) ∙ ap (λ es. step (rule_of s.rule s.numbers es) (proofs_at ps s.premises)) q

-- what is claimed of a task, once its sides are entered
entered_claim : (ts : List Tree) (places os : List ℕ) (ss : List ProofStep) (l r : List ℕ) (k : Task) (s : ProofStep) (l1 r1 : Side) → IsWork ts places os ss l r k s → AreEntered ts k l r l1 r1 → Claim ts (proofs_of (picked ts places) ss) l r k ≡ Correct (step (rule_of s.rule s.numbers (picked ts os)) (proofs_at (proofs_of (picked ts places) ss) s.premises)) (seen ts l1) (seen ts r1)
entered_claim ts places os ss l r k s l1 r1 w e =
    λ i. Correct (proof_is ts places os ss l r k s w i) (sym (seen_entered ts k.left l l1 w.top.task.left.base w.top.left e.left) i) (sym (seen_entered ts k.right r r1 w.top.task.right.base w.top.right e.right) i)

turn_made : (ts ts' : List Tree) (places os : List ℕ) (ss : List ProofStep) (l r : List ℕ) (k : Task) (s : ProofStep) (l1 r1 l2 r2 : Side) (p : Plan) (old todo : List Task) → IsWork ts places os ss l r k s → AreEntered ts k l r l1 r1 → Moves ts ts' (rule_of s.rule s.numbers (picked ts os)) l1 r1 l2 r2 (Some p) → IsPushed p s.premises l2 r2 old todo true → IsTurn ts ts' (proofs_of (picked ts places) ss) (length ss) l r k l2.trail r2.trail old todo
turn_made ts ts' places os ss l r k s l1 r1 l2 r2 p old todo w e m u =
    record {
      tasks = v.tasks;
      todo_is = v.new_is;
      extends = m.5;
      left = (adds_list k.left.adds ++ m.3.more.0, m.3.more.1 ∙ ap (λ xs. xs ++ m.3.more.0) e.left.trail ∙ append_assoc (take k.left.count l) (adds_list k.left.adds) m.3.more.0);
      right = (adds_list k.right.adds ++ m.4.more.0, m.4.more.1 ∙ ap (λ xs. xs ++ m.4.more.0) e.right.trail ∙ append_assoc (take k.right.count r) (adds_list k.right.adds) m.4.more.0);
      formulas = (m.3.formulas, m.4.formulas);
      stacked = v.stacked;
      to = λ c. let d = coe 0 1 (i. claim i) c in v.to (subst (AreCorrect (proofs_at ps s.premises)) m.1 d.3);
      from = λ c. coe 1 0 (i. claim i) (seen_closed ts l1 e.sides.0, seen_closed ts r1 e.sides.1, m.0, subst (AreCorrect (proofs_at ps s.premises)) (sym m.1) (v.from c));
      less = less;
    }
  where
    ps : List Proof
    ps = proofs_of (picked ts places) ss

    claim : Claim ts ps l r k ≡ Correct (step (rule_of s.rule s.numbers (picked ts os)) (proofs_at ps s.premises)) (seen ts l1) (seen ts r1)
    claim = entered_claim ts places os ss l r k s l1 r1 w e

    this : IsStep (length places) k.step s
    this = this_step (length places) ss k.step s w.steps w.top.task.step w.step_is

    low : k.left.count ≤ length l2.trail
    low = omega (arith, ap length m.3.more.1, length-append l1.trail m.3.more.0, ap length e.left.trail, length-append (take k.left.count l) (adds_list k.left.adds), length-take-le k.left.count l w.top.left)

    low' : k.right.count ≤ length r2.trail
    low' = omega (arith, ap length m.4.more.1, length-append r1.trail m.4.more.0, ap length e.right.trail, length-append (take k.right.count r) (adds_list k.right.adds), length-take-le k.right.count r w.top.right)

    v : AreTasks ts' ps (length ss) k.left.count k.right.count l2 r2 p s.premises old todo
    v = tasks_put ts' ps (length ss) k.left.count k.right.count l2 r2 p s.premises old todo (AreBelow-more k.step (length ss) s.premises (omega (arith, w.top.task.step)) this.premises) m.3.base m.4.base low low' m.2 u

    less : work ps v.tasks < work ps (k ∷ [])
    less = let q : steps_in (get_or ps k.step no_proof) ≡ suc (steps_in_all (proofs_at ps s.premises)) = ap steps_in (proof_is ts places os ss l r k s w) in let n = v.work_is in omega arith

-- where a step does not fit, or has other than its premises, the task's claim does not hold
turn_refused : (ts ts' : List Tree) (places os : List ℕ) (ss : List ProofStep) (l r : List ℕ) (k : Task) (s : ProofStep) (l1 r1 l2 r2 : Side) (o : Option Plan) (old todo : List Task) → IsWork ts places os ss l r k s → AreEntered ts k l r l1 r1 → Moves ts ts' (rule_of s.rule s.numbers (picked ts os)) l1 r1 l2 r2 o → PutFor o s.premises l2 r2 old todo false → Claim ts (proofs_of (picked ts places) ss) l r k → ⊥
turn_refused ts ts' places os ss l r k s l1 r1 l2 r2 None old todo w e m u c =
    let d = coe 0 1 (i. entered_claim ts places os ss l r k s l1 r1 w e i) c in
    m (proofs_at (proofs_of (picked ts places) ss) s.premises) d.2 d.3
turn_refused ts ts' places os ss l r k s l1 r1 l2 r2 (Some p) old todo w e m u c =
    let d = coe 0 1 (i. entered_claim ts places os ss l r k s l1 r1 w e i) c in
    not_put ts' (proofs_of (picked ts places) ss) l2 r2 p s.premises old todo (seen ts' l2) (seen ts' r2) u (subst (AreCorrect (proofs_at (proofs_of (picked ts places) ss) s.premises)) m.1 d.3)

pub turn_yes : (ts ts' : List Tree) (places os : List ℕ) (ss : List ProofStep) (l r : List ℕ) (k : Task) (s : ProofStep) (l1 r1 l2 r2 : Side) (old todo : List Task) (b : Bool) → IsWork ts places os ss l r k s → AreEntered ts k l r l1 r1 → IsPut ts ts' (rule_of s.rule s.numbers (picked ts os)) l1 r1 l2 r2 s.premises old todo b → IsTrue b → IsTurn ts ts' (proofs_of (picked ts places) ss) (length ss) l r k l2.trail r2.trail old todo
turn_yes ts ts' places os ss l r k s l1 r1 l2 r2 old todo true w e m h = go m.plan m.moves m.put
  where
    go : (o : Option Plan) → Moves ts ts' (rule_of s.rule s.numbers (picked ts os)) l1 r1 l2 r2 o → PutFor o s.premises l2 r2 old todo true → IsTurn ts ts' (proofs_of (picked ts places) ss) (length ss) l r k l2.trail r2.trail old todo
    go (Some p) n u = turn_made ts ts' places os ss l r k s l1 r1 l2 r2 p old todo w e n u
    go None n u = cc
turn_yes ts ts' places os ss l r k s l1 r1 l2 r2 old todo false w e m h = absurd (false≢true h)

pub turn_no : (ts ts' : List Tree) (places os : List ℕ) (ss : List ProofStep) (l r : List ℕ) (k : Task) (s : ProofStep) (l1 r1 l2 r2 : Side) (old todo : List Task) (b : Bool) → IsWork ts places os ss l r k s → AreEntered ts k l r l1 r1 → IsPut ts ts' (rule_of s.rule s.numbers (picked ts os)) l1 r1 l2 r2 s.premises old todo b → (IsTrue b → ⊥) → Claim ts (proofs_of (picked ts places) ss) l r k → ⊥
turn_no ts ts' places os ss l r k s l1 r1 l2 r2 old todo true w e m h = absurd (h refl)
turn_no ts ts' places os ss l r k s l1 r1 l2 r2 old todo false w e m h = turn_refused ts ts' places os ss l r k s l1 r1 l2 r2 m.plan old todo w e m.moves m.put

-- a part whose formulas are open
pub turn_open : (ts : List Tree) (ps : List Proof) (l r : List ℕ) (k : Task) → (AreAddsClosed ts k → ⊥) → Claim ts ps l r k → ⊥
turn_open ts ps l r k n c =
    let d = correct_closed (get_or ps k.step no_proof) (part_side ts k.left l) (part_side ts k.right r) c in
    n (adds_closed ts k.left.adds (side ts (drop k.left.base (take k.left.count l))) d.0, adds_closed ts k.right.adds (side ts (drop k.right.base (take k.right.count r))) d.1)

pub gathered-length : (places is : List ℕ) → length (gathered places is) ≡ length is
gathered-length places is = length-map is (λ i. get_or places i 0)

pub this_top : (n steps l r : ℕ) (k : Task) → IsTop n steps l r k → IsTop n (k.step + 1) l r k
this_top n steps l r k a = record { task = record { step = omega arith; left = a.task.left; right = a.task.right }; left = a.left; right = a.right }
