-- The steps of a proof are entered by tasks as its tree is.
use Rattle.std.proofs.Common.{◌≡◌, ℕ, zero, suc, ◌+◌, ◌<◌, List, [], ◌∷◌, ◌++◌, length, map, get_or, refl, ap, sym, ◌∙◌, subst, arith, append_assoc, append-nil}
use Rattle.std.proofs.lemmas.List.{get_or_append_left, get_or_at, length_push, map-append}
use Rattle.core_expr.specs.Tree.{Tree}
use Rattle.core_expr.specs.Nodes.{AreBelow, picked}
use Rattle.seq_calculus.specs.declared.lists.ProofStep.{ProofStep}
use Rattle.seq_calculus.specs.Calculus.{Proof}
use Rattle.seq_calculus.specs.Calculus.Proof.{step}
use Rattle.seq_calculus.specs.Calculus.Proofs.{more}
use Rattle.seq_calculus.specs.Lists.{Lists, AreLists, AreSteps, IsStep}
use Rattle.seq_calculus.specs.Steps.{rule_of, no_proof, proofs_at, proof_in, proofs_from, proofs_of, table_of}
use Rattle.proof_text.proofs.TableTrees.{length-picked}
use Rattle.text_writer.specs.declared.task.Task.{Task}
use Rattle.text_writer.specs.declared.task.Task.TheVariants.{Visit, Finish}
use Rattle.text_writer.specs.Proofs.{Kept, AllEntered, with_step, enter_proof, enter_proofs}
use Rattle.text_writer.specs.Tasks.{no_step, step_at, proof_at, behind, kept_step, act, acts, visits, step_of}
use Rattle.text_writer.proofs.RowLaws.{last-are, below-are}
use Rattle.text_writer.proofs.RuleLaws.{kept-step}
use Rattle.text_writer.proofs.TreeLaws.{below-append, below-wider}

pub same-proofs : (n : ℕ) (ps qs : List Proof) (is : List ℕ) → AreBelow n is → ((j : ℕ) → j < n → get_or ps j no_proof ≡ get_or qs j no_proof) → proofs_at ps is ≡ proofs_at qs is
same-proofs n ps qs [] b e = refl
same-proofs n ps qs (i ∷ is) b e = λ k. more (e i b.0 k) (same-proofs n ps qs is b.1 e k)

pub proofs-grow : (ts : List Tree) (ps : List Proof) (ss : List ProofStep) → (qs : List Proof) × (proofs_from ts ps ss ≡ ps ++ qs)
proofs-grow ts ps [] = ([], sym (append-nil ps))
proofs-grow ts ps (s ∷ ss) =
    let g = proofs-grow ts (ps ++ proof_in ts ps s ∷ []) ss in
    (proof_in ts ps s ∷ g.0, g.1 ∙ append_assoc ps (proof_in ts ps s ∷ []) g.0)

at-from : (ts : List Tree) (ps : List Proof) (ss : List ProofStep) (i n : ℕ) → i < length ss → n ≡ length ps + i → AreBelow n (get_or ss i no_step).premises
    → get_or (proofs_from ts ps ss) n no_proof ≡ proof_in ts (proofs_from ts ps ss) (get_or ss i no_step)
at-from ts ps [] i n h e a = absurd (omega arith)
at-from ts ps (s ∷ ss) zero n h e a =
    let g = proofs-grow ts (ps ++ proof_in ts ps s ∷ []) ss in
    let w : proofs_from ts ps (s ∷ ss) ≡ ps ++ proof_in ts ps s ∷ g.0 = g.1 ∙ append_assoc ps (proof_in ts ps s ∷ []) g.0 in
    let l : length ps ≡ n = omega arith in
    ap (λ qs. get_or qs n no_proof) w ∙ get_or_at ps (proof_in ts ps s) g.0 no_proof n l
    ∙ ap (step (rule_of s.rule s.numbers (picked ts s.exprs))) (same-proofs n ps (proofs_from ts ps (s ∷ ss)) s.premises a (λ j m. sym (ap (λ qs. get_or qs j no_proof) w ∙ get_or_append_left ps (proof_in ts ps s ∷ g.0) no_proof j (omega arith))))
at-from ts ps (s ∷ ss) (suc i) n h e a = at-from ts (ps ++ proof_in ts ps s ∷ []) ss i n (omega arith) (omega (arith, length_push ps (proof_in ts ps s))) a

step-form : (m n k : ℕ) (ss : List ProofStep) (i : ℕ) → AreSteps m n ss → i < length ss → k ≡ n + i → IsStep m k (get_or ss i no_step)
step-form m n k [] i a l e = absurd (omega arith)
step-form m n k (s ∷ ss) zero a l e = let q : n ≡ k = omega arith in subst (λ j. IsStep m j s) q a.0
step-form m n k (s ∷ ss) (suc i) a l e = step-form m (suc n) k ss i a.1 (omega arith) (omega arith)

-- a step of lists
pub step-is : (l : Lists) → AreLists l → (i : ℕ) → i < length l.steps → IsStep (length l.nodes) i (step_at l i)
step-is l h i k = step-form (length l.nodes) 0 i l.steps i h.steps k (omega arith)

-- its proof is that of its rule over the proofs of its premises
pub proof-is : (l : Lists) → AreLists l → (i : ℕ) → i < length l.steps → proof_at l i ≡ proof_in (table_of l) (proofs_of (table_of l) l.steps) (step_at l i)
proof-is l h i k = at-from (table_of l) [] l.steps i i k (omega arith) (step-is l h i k).premises

pub acts-append : (l : Lists) (ts us : List Task) (a : AllEntered) → acts l (ts ++ us) a ≡ acts l ts (acts l us a)
acts-append l [] us a = refl
acts-append l (t ∷ ts) us a = ap (act l t) (acts-append l ts us a)

-- behind these places
abbrev all_behind : List ℕ → AllEntered → AllEntered
all_behind qs a = record { lists = a.lists; places = qs ++ a.places }

visits-enter : (l : Lists) (is : List ℕ) (a : AllEntered) → acts l (visits is) a ≡ all_behind a.places (enter_proofs (proofs_at (proofs_of (table_of l) l.steps) is) a.lists)
visits-enter l [] a = ap (λ qs. record { lists = a.lists; places = qs }) (sym (append-nil a.places))
visits-enter l (i ∷ is) a =
    let e = enter_proof (proof_at l i) a.lists in
    let r = enter_proofs (proofs_at (proofs_of (table_of l) l.steps) is) e.lists in
    acts-append l (visits is) (Visit i ∷ []) a ∙ visits-enter l is (behind a.places e)
    ∙ ap (λ qs. record { lists = r.lists; places = qs }) (append_assoc a.places (e.place ∷ []) r.places)

count : (qs : List Proof) (is : List ℕ) (l : Lists) → length is ≡ length (enter_proofs (proofs_at qs is) l).places
count qs [] l = refl
count qs (i ∷ is) l = ap suc (count qs is (enter_proof (get_or qs i no_proof) l).lists)

-- a step is entered as its premises and then itself
finishes : (l : Lists) (i : ℕ) (a : AllEntered) → AreLists l → i < length l.steps → act l (Finish i) (acts l (visits (step_at l i).premises) a) ≡ act l (Visit i) a
finishes l i a h k =
    let s = step_at l i in
    let qs = proofs_of (table_of l) l.steps in
    let r = enter_proofs (proofs_at qs s.premises) a.lists in
    let n = count qs s.premises a.lists in
    let form = (step-is l h i k).form in
    ap (act l (Finish i)) (visits-enter l s.premises a)
    ∙ (λ j. behind (below-are (length s.premises) a.places r.places n j) (with_step (kept_step l s) (record { lists = r.lists; places = last-are (length s.premises) a.places r.places n j })))
    ∙ ap (λ (w : Kept). behind a.places (with_step w r)) (sym (kept-step s (picked (table_of l) s.exprs) form (length-picked (table_of l) s.exprs)))
    ∙ ap (λ p. behind a.places (enter_proof p a.lists)) (sym (proof-is l h i k))

-- the step waits for its premises
pub waits : (l : Lists) (i : ℕ) (a : AllEntered) (ts new : List Task) → AreLists l → i < length l.steps → new ≡ (ts ++ Finish i ∷ []) ++ visits (step_at l i).premises → acts l new a ≡ acts l ts (act l (Visit i) a)
waits l i a ts new h k e =
    let vs = visits (step_at l i).premises in
    ap (λ us. acts l us a) e ∙ acts-append l (ts ++ Finish i ∷ []) vs a ∙ acts-append l ts (Finish i ∷ []) (acts l vs a) ∙ ap (acts l ts) (finishes l i a h k)

visits-below : (n : ℕ) (is : List ℕ) → AreBelow n is → AreBelow n (map step_of (visits is))
visits-below n [] b = tt
visits-below n (i ∷ is) b =
    subst (AreBelow n) (sym (map-append step_of (visits is) (Visit i ∷ []))) (below-append n (map step_of (visits is)) (i ∷ []) (visits-below n is b.1) (b.0, tt))

pub waits-below : (n i : ℕ) (is : List ℕ) (ts new : List Task) → AreBelow n (map step_of ts) → i < n → AreBelow i is → new ≡ (ts ++ Finish i ∷ []) ++ visits is → AreBelow n (map step_of new)
waits-below n i is ts new b l c e =
    subst (λ us. AreBelow n (map step_of us)) (sym e)
    (subst (AreBelow n) (sym (map-append step_of (ts ++ Finish i ∷ []) (visits is)))
    (below-append n (map step_of (ts ++ Finish i ∷ [])) (map step_of (visits is))
    (subst (AreBelow n) (sym (map-append step_of ts (Finish i ∷ []))) (below-append n (map step_of ts) (i ∷ []) b (l, tt))) (visits-below n is (below-wider i n is (omega arith) c))))
