-- A turn keeps what a run says.
use Rattle.std.proofs.Common.{◌≡◌, ℕ, ◌+◌, ◌-◌, ◌<◌, ◌≤◌, List, [], ◌∷◌, ◌++◌, length, get_or, take, drop, refl, ap, sym, ◌∙◌, arith}
use Rattle.std.proofs.lemmas.List.{take-take, take-append-le, length-take-le}
use Rattle.core_expr.specs.Tree.{Tree}
use Rattle.seq_calculus.specs.Calculus.{Proof, Correct}
use Rattle.core_expr.specs.Nodes.{AreBelow, picked}
use Rattle.seq_calculus.specs.Steps.{no_proof, proofs_of}
use Rattle.seq_calculus.specs.declared.lists.ProofStep.{ProofStep}
use Rattle.term_bank.specs.Banks.{Extends, tree_at}
use Rattle.term_bank.proofs.TableLaws.{picked-extend}
use Rattle.proof_checker.specs.Sides.{side, seen, added, AreFormulas, AddsBelow, IsPart, part_side}
use Rattle.proof_checker.specs.Runs.{work, Claim, Claims, AreStacked, IsTop, IsTurn, IsRun, task_for}
use Rattle.proof_checker.specs.Plans.{adding}
use Rattle.proof_checker.specs.declared.side.Side.{Side}
use Rattle.proof_checker.specs.declared.task.Adds.{Adds}
use Rattle.proof_checker.specs.declared.task.Adds.TheVariants.{Nothing, One, Both}
use Rattle.proof_checker.specs.declared.task.Part.{Part}
use Rattle.proof_checker.specs.declared.task.Task.{Task}
use Rattle.proof_checker.proofs.SideLaws.{AreFormulas-drop, AreFormulas-take, side-extend, added-extend, longer}
use Rattle.proof_checker.proofs.ProofLaws.{claim_for}

stacked_low : (n steps low low' l r : ℕ) (ks : List Task) → AreStacked n steps low low' l r ks → (low ≤ l) × (low' ≤ r)
stacked_low n steps low low' l r [] a = a
stacked_low n steps low low' l r (k ∷ ks) a =
    let w = stacked_low n steps k.left.count k.right.count l r ks a.1 in
    let w0 : k.left.count ≤ l = w.0 in
    let w1 : k.right.count ≤ r = w.1 in
    let a0 : low ≤ k.left.count = a.0.left.above in
    let a1 : low' ≤ k.right.count = a.0.right.above in
    (omega arith, omega arith)

lower_part : (n low : ℕ) (p : Part) → IsPart n low p → IsPart n 0 p
lower_part n low p a = record { base = a.base; above = omega arith; adds = a.adds }

stacked_top : (n steps low low' l r : ℕ) (ks : List Task) (k : Task) → AreStacked n steps low low' l r (ks ++ k ∷ []) → IsTop n steps l r k
stacked_top n steps low low' l r [] k a = record {
  task = record { step = a.0.step; left = lower_part n low k.left a.0.left; right = lower_part n low' k.right a.0.right };
  left = a.1.0;
  right = a.1.1;
}
stacked_top n steps low low' l r (j ∷ ks) k a = stacked_top n steps j.left.count j.right.count l r ks k a.1

stacked_rest : (n steps low low' l r : ℕ) (ks : List Task) (k : Task) → AreStacked n steps low low' l r (ks ++ k ∷ []) → AreStacked n steps low low' k.left.count k.right.count ks
stacked_rest n steps low low' l r [] k a = (a.0.left.above, a.0.right.above)
stacked_rest n steps low low' l r (j ∷ ks) k a = (a.0, stacked_rest n steps j.left.count j.right.count l r ks k a.1)

adds_more : (m n : ℕ) (a : Adds) → m ≤ n → AddsBelow m a → AddsBelow n a
adds_more m n Nothing h b = tt
adds_more m n (One a) h b = omega arith
adds_more m n (Both a c) h b = let p : a < m = b.0 in let q : c < m = b.1 in (omega arith, omega arith)

part_more : (m n low : ℕ) (p : Part) → m ≤ n → IsPart m low p → IsPart n low p
part_more m n low p h a = record { base = a.base; above = a.above; adds = adds_more m n p.adds h a.adds }

-- tasks on what a task stands on, and then others on that
stacked_join : (m n steps low low' i i' l r : ℕ) (ks js : List Task) → m ≤ n → AreStacked m steps low low' i i' ks → ((low low' : ℕ) → low ≤ i → low' ≤ i' → AreStacked n steps low low' l r js) → AreStacked n steps low low' l r (ks ++ js)
stacked_join m n steps low low' i i' l r [] js h a b = b low low' a.0 a.1
stacked_join m n steps low low' i i' l r (k ∷ ks) js h a b =
    (record { step = a.0.step; left = part_more m n low k.left h a.0.left; right = part_more m n low' k.right h a.0.right }, stacked_join m n steps k.left.count k.right.count i i' l r ks js h a.1 b)

-- lower bounds of the first task alone
stacked_lower : (n steps low low' i i' l r : ℕ) (ks : List Task) → i ≤ low → i' ≤ low' → AreStacked n steps low low' l r ks → AreStacked n steps i i' l r ks
stacked_lower n steps low low' i i' l r [] h h' a = let p : low ≤ l = a.0 in let q : low' ≤ r = a.1 in (omega arith, omega arith)
stacked_lower n steps low low' i i' l r (k ∷ ks) h h' a =
    let p : low ≤ k.left.count = a.0.left.above in
    let q : low' ≤ k.right.count = a.0.right.above in
    (record { step = a.0.step; left = record { base = a.0.left.base; above = omega arith; adds = a.0.left.adds }; right = record { base = a.0.right.base; above = omega arith; adds = a.0.right.adds } }, a.1)

claims_top : (ts : List Tree) (ps : List Proof) (l r : List ℕ) (ks : List Task) (k : Task) → Claims ts ps l r (ks ++ k ∷ []) → Claim ts ps l r k
claims_top ts ps l r [] k c = c.0
claims_top ts ps l r (j ∷ ks) k c = claims_top ts ps l r ks k c.1

claims_rest : (ts : List Tree) (ps : List Proof) (l r : List ℕ) (ks js : List Task) → Claims ts ps l r (ks ++ js) → Claims ts ps l r ks × Claims ts ps l r js
claims_rest ts ps l r [] js c = (tt, c)
claims_rest ts ps l r (k ∷ ks) js c = let w = claims_rest ts ps l r ks js c.1 in ((c.0, w.0), w.1)

claims_join : (ts : List Tree) (ps : List Proof) (l r : List ℕ) (ks js : List Task) → Claims ts ps l r ks → Claims ts ps l r js → Claims ts ps l r (ks ++ js)
claims_join ts ps l r [] js c d = d
claims_join ts ps l r (k ∷ ks) js c d = (c.0, claims_join ts ps l r ks js c.1 d)

-- what stands below a task is as it was
part_same : (ts ts' : List Tree) (m : ℕ) (l l' zs : List ℕ) (p : Part) → Extends ts ts' → AreFormulas ts l → m ≤ length l → l' ≡ take m l ++ zs → p.count ≤ m → AddsBelow (length ts) p.adds → part_side ts p l ≡ part_side ts' p l'
part_same ts ts' m l l' zs p x a h e c b =
    let front : take p.count l' ≡ take p.count l = ap (take p.count) e ∙ take-append-le p.count (take m l) zs (omega (arith, length-take-le m l h)) ∙ take-take p.count m l c in
    let same : side ts' (drop p.base (take p.count l)) ≡ side ts (drop p.base (take p.count l)) = side-extend ts ts' (drop p.base (take p.count l)) x (AreFormulas-drop ts p.base (take p.count l) (AreFormulas-take ts p.count l a)) in
    ap (added ts p.adds) (sym same) ∙ sym (added-extend ts ts' p.adds (side ts' (drop p.base (take p.count l))) x b) ∙ ap (λ xs. added ts' p.adds (side ts' (drop p.base xs))) (sym front)

claims_same : (ts ts' : List Tree) (ps : List Proof) (steps low low' m m' : ℕ) (l r l' r' zs zs' : List ℕ) (ks : List Task) → Extends ts ts' → AreFormulas ts l → AreFormulas ts r → AreStacked (length ts) steps low low' m m' ks → m ≤ length l → m' ≤ length r → l' ≡ take m l ++ zs → r' ≡ take m' r ++ zs' → Claims ts ps l r ks ≡ Claims ts' ps l' r' ks
claims_same ts ts' ps steps low low' m m' l r l' r' zs zs' [] x fl fr a h h' e e' = refl
claims_same ts ts' ps steps low low' m m' l r l' r' zs zs' (k ∷ ks) x fl fr a h h' e e' =
    let w = stacked_low (length ts) steps k.left.count k.right.count m m' ks a.1 in
    let p = part_same ts ts' m l l' zs k.left x fl h e w.0 a.0.left.adds in
    let q = part_same ts ts' m' r r' zs' k.right x fr h' e' w.1 a.0.right.adds in
    λ i. Correct (get_or ps k.step no_proof) (p i) (q i) × claims_same ts ts' ps steps k.left.count k.right.count m m' l r l' r' zs zs' ks x fl fr a.1 h h' e e' i

pub run_top : (ts : List Tree) (ps : List Proof) (steps : ℕ) (l r : List ℕ) (todo ks : List Task) (k : Task) (root : Type 0) → todo ≡ ks ++ k ∷ [] → IsRun ts ps steps l r todo root → IsTop (length ts) steps (length l) (length r) k
run_top ts ps steps l r todo ks k root e w = stacked_top (length ts) steps 0 0 (length l) (length r) ks k (rw e at w.stacked)

pub run_claim : (ts : List Tree) (ps : List Proof) (steps : ℕ) (l r : List ℕ) (todo ks : List Task) (k : Task) (root : Type 0) → todo ≡ ks ++ k ∷ [] → IsRun ts ps steps l r todo root → root → Claim ts ps l r k
run_claim ts ps steps l r todo ks k root e w c = let d : Claims ts ps l r (ks ++ k ∷ []) = rw e at (w.to c) in claims_top ts ps l r ks k d

pub run_more : (ts ts' : List Tree) (ps : List Proof) (steps : ℕ) (l r l' r' : List ℕ) (todo ks todo' : List Task) (k : Task) (root : Type 0) → todo ≡ ks ++ k ∷ [] → IsRun ts ps steps l r todo root → IsTurn ts ts' ps steps l r k l' r' ks todo' → IsRun ts' ps steps l' r' todo' root
run_more ts ts' ps steps l r l' r' todo ks todo' k root e w t =
    record {
      left = t.formulas.0;
      right = t.formulas.1;
      stacked = rw t.todo_is (stacked_join (length ts) (length ts') steps 0 0 k.left.count k.right.count (length l') (length r') ks t.tasks (longer ts ts' t.extends) rest
          (λ low low' h h'. stacked_lower (length ts') steps k.left.count k.right.count low low' (length l') (length r') t.tasks h h' t.stacked));
      to = λ c. rw t.todo_is (to' (w.to c));
      from = λ c. w.from (from' (rw t.todo_is at c));
    }
  where
    st : AreStacked (length ts) steps 0 0 (length l) (length r) (ks ++ k ∷ [])
    st = rw e at w.stacked

    top : IsTop (length ts) steps (length l) (length r) k
    top = stacked_top (length ts) steps 0 0 (length l) (length r) ks k st

    rest : AreStacked (length ts) steps 0 0 k.left.count k.right.count ks
    rest = stacked_rest (length ts) steps 0 0 (length l) (length r) ks k st

    same : Claims ts ps l r ks ≡ Claims ts' ps l' r' ks
    same = claims_same ts ts' ps steps 0 0 k.left.count k.right.count l r l' r' t.left.0 t.right.0 ks t.extends w.left w.right rest top.left top.right t.left.1 t.right.1

    to' : Claims ts ps l r todo → Claims ts' ps l' r' (ks ++ t.tasks)
    to' c =
        let d : Claims ts ps l r (ks ++ k ∷ []) = rw e at c in
        claims_join ts' ps l' r' ks t.tasks (coe 0 1 (i. same i) (claims_rest ts ps l r ks (k ∷ []) d).0) (t.to (claims_top ts ps l r ks k d))

    from' : Claims ts' ps l' r' (ks ++ t.tasks) → Claims ts ps l r todo
    from' c =
        let d = claims_rest ts' ps l' r' ks t.tasks c in
        rw e (claims_join ts ps l r ks (k ∷ []) (coe 1 0 (i. same i) d.0) (t.from d.1, tt))

work-append : (ps : List Proof) (ks js : List Task) → work ps (ks ++ js) ≡ work ps ks + work ps js
work-append ps [] js = omega arith
work-append ps (k ∷ ks) js = omega (arith, work-append ps ks js)

pub work_falls : (ts ts' : List Tree) (ps : List Proof) (steps : ℕ) (l r l' r' : List ℕ) (todo ks todo' : List Task) (k : Task) → todo ≡ ks ++ k ∷ [] → IsTurn ts ts' ps steps l r k l' r' ks todo' → work ps todo' < work ps todo
work_falls ts ts' ps steps l r l' r' todo ks todo' k e t =
    let one : work ps todo ≡ work ps ks + work ps (k ∷ []) = ap (work ps) e ∙ work-append ps ks (k ∷ []) in
    let two : work ps todo' ≡ work ps ks + work ps t.tasks = ap (work ps) t.todo_is ∙ work-append ps ks t.tasks in
    let less = t.less in
    omega arith

-- the table's trees stay
pub same_table : (ts ts' : List Tree) (places : List ℕ) (ss : List ProofStep) → Extends ts ts' → AreBelow (length ts) places → proofs_of (picked ts' places) ss ≡ proofs_of (picked ts places) ss
same_table ts ts' places ss x b = ap (λ us. proofs_of us ss) (ap (λ us. picked us places) x.1 ∙ picked-extend ts x.0 places b)

pub run_begins : (ts : List Tree) (ps : List Proof) (steps : ℕ) (l r : Side) (goal : ℕ) (todo : List Task) → r ≡ record { trail = []; base = 0 } → todo ≡ task_for (steps - 1) (adding Nothing (One goal)) l r ∷ [] → 0 < steps → AreFormulas ts l.trail → l.base ≡ 0 → goal < length ts → IsRun ts ps steps l.trail r.trail todo (Correct (get_or ps (steps - 1) no_proof) (seen ts l) (tree_at ts goal ∷ []))
run_begins ts ps steps l r goal todo er et h a b g =
    rw (et, er) (record {
      left = a;
      right = tt;
      stacked = (record { step = omega arith; left = record { base = omega (arith, b); above = omega arith; adds = tt }; right = record { base = omega arith; above = omega arith; adds = g } }, (omega arith, omega arith));
      to = λ c. (coe 1 0 (i. claim i) c, tt);
      from = λ c. coe 0 1 (i. claim i) c.0;
    })
  where
    claim : Claim ts ps l.trail [] (task_for (steps - 1) (adding Nothing (One goal)) l (record { trail = []; base = 0 })) ≡ Correct (get_or ps (steps - 1) no_proof) (seen ts l) (tree_at ts goal ∷ [])
    claim = claim_for ts ps (steps - 1) (adding Nothing (One goal)) l (record { trail = []; base = 0 })
