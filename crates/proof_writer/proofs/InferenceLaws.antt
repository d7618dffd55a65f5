-- Inferences as steps of a proof.
use Rattle.std.specs.Prelude.{◌≡◌, ℕ, ◌+◌, nat_eq, nat_lt, ◌&&◌, cond, IsTrue, List, [], ◌∷◌, ◌++◌, length}
use Rattle.std.proofs.Common.{get_or, refl, ap, sym, ◌∙◌, subst, eq-eqb}
use Rattle.core_expr.specs.Tree.{Tree}
use Rattle.core_expr.specs.Nodes.{AreBelow, picked}
use Rattle.seq_calculus.specs.declared.lists.ProofStep.{ProofStep}
use Rattle.seq_calculus.specs.Calculus.{Proof, Proofs}
use Rattle.seq_calculus.specs.Calculus.Rule.{Schema}
use Rattle.seq_calculus.specs.Calculus.Proof.{step}
use Rattle.seq_calculus.specs.Calculus.Proofs.{more}
use Rattle.seq_calculus.specs.Lists.{step_fits, premise_counts, expression_counts}
use Rattle.seq_calculus.specs.Steps.{readings, rule_of, proofs_of, proofs_at, no_proof}
use Rattle.proof_writer.specs.declared.inference.Inference.{Inference}
use Rattle.proof_writer.specs.declared.inference.Inference.TheVariants.{Axiom, TrueRight, FalseLeft, Cut, NotLeft, NotRight, AndLeft, AndRight, OrLeft, OrRight, ImpLeft, ImpRight, IffLeft, IffRight, AllLeft, AllRight, ExistsLeft, ExistsRight, Reflexive, Replacement}
use Rattle.proof_writer.specs.Inferences.{rule_at, number_of, exprs_of, premises_of, step_of}
use Rattle.proof_writer.specs.Written.{Written, IsWritten, opens, proofs_on, with_unused, grown}
use Rattle.proof_writer.specs.Shapes.{over, first_of, rest_of, firsts, behind, applied}
use Rattle.proof_writer.proofs.WrittenLaws.{grown_opens}

-- the step of an inference is read as its rule
pub rule_is : (ts : List Tree) (i : Inference) → rule_of (number_of i) [] (picked ts (exprs_of i)) ≡ rule_at ts i
unfolding readings
rule_is ts (Axiom a) = refl
rule_is ts TrueRight = refl
rule_is ts FalseLeft = refl
rule_is ts (Cut a) = refl
rule_is ts (NotLeft a) = refl
rule_is ts (NotRight a) = refl
rule_is ts (AndLeft a b) = refl
rule_is ts (AndRight a b) = refl
rule_is ts (OrLeft a b) = refl
rule_is ts (OrRight a b) = refl
rule_is ts (ImpLeft a b) = refl
rule_is ts (ImpRight a b) = refl
rule_is ts (IffLeft a b) = refl
rule_is ts (IffRight a b) = refl
rule_is ts (AllLeft p t) = refl
rule_is ts (AllRight p) = refl
rule_is ts (ExistsLeft p) = refl
rule_is ts (ExistsRight p t) = refl
rule_is ts (Reflexive t) = refl
rule_is ts (Replacement h s t) = refl

-- so many premises
abbrev zeros : ℕ → List ℕ
zeros n = cond (nat_eq n 0) [] (cond (nat_eq n 1) (0 ∷ []) (0 ∷ 0 ∷ []))

fits_zeros : (i : Inference) → IsTrue (step_fits (step_of i (zeros (premises_of i))))
unfolding step_fits premise_counts expression_counts
fits_zeros (Axiom a) = refl
fits_zeros TrueRight = refl
fits_zeros FalseLeft = refl
fits_zeros (Cut a) = refl
fits_zeros (NotLeft a) = refl
fits_zeros (NotRight a) = refl
fits_zeros (AndLeft a b) = refl
fits_zeros (AndRight a b) = refl
fits_zeros (OrLeft a b) = refl
fits_zeros (OrRight a b) = refl
fits_zeros (ImpLeft a b) = refl
fits_zeros (ImpRight a b) = refl
fits_zeros (IffLeft a b) = refl
fits_zeros (IffRight a b) = refl
fits_zeros (AllLeft p t) = refl
fits_zeros (AllRight p) = refl
fits_zeros (ExistsLeft p) = refl
fits_zeros (ExistsRight p t) = refl
fits_zeros (Reflexive t) = refl
fits_zeros (Replacement h s t) = refl

-- how many premises there are alone counts
fits_same : (r : ℕ) (es is js : List ℕ) → length is ≡ length js → IsTrue (step_fits (record { rule = r; numbers = []; exprs = es; premises = js })) → IsTrue (step_fits (record { rule = r; numbers = []; exprs = es; premises = is }))
unfolding step_fits
fits_same r es is js e h =
    subst (λ n. IsTrue (nat_lt r 22 && nat_eq n (get_or premise_counts r 0)
    && cond (nat_eq r 3) (nat_eq (length {A = ℕ} []) 2 && nat_eq (length es) (get_or {A = ℕ} [] 0 0 + get_or {A = ℕ} [] 1 0))
    (cond (nat_eq r 21) (nat_eq (length {A = ℕ} []) 3 && nat_eq (length es) (get_or {A = ℕ} [] 2 0)) (nat_eq (length {A = ℕ} []) 0 && nat_eq (length es) (get_or expression_counts r 0))))) (sym e) h

zeros_are : (i : Inference) → length (zeros (premises_of i)) ≡ premises_of i
zeros_are (Axiom a) = refl
zeros_are TrueRight = refl
zeros_are FalseLeft = refl
zeros_are (Cut a) = refl
zeros_are (NotLeft a) = refl
zeros_are (NotRight a) = refl
zeros_are (AndLeft a b) = refl
zeros_are (AndRight a b) = refl
zeros_are (OrLeft a b) = refl
zeros_are (OrRight a b) = refl
zeros_are (ImpLeft a b) = refl
zeros_are (ImpRight a b) = refl
zeros_are (IffLeft a b) = refl
zeros_are (IffRight a b) = refl
zeros_are (AllLeft p t) = refl
zeros_are (AllRight p) = refl
zeros_are (ExistsLeft p) = refl
zeros_are (ExistsRight p t) = refl
zeros_are (Reflexive t) = refl
zeros_are (Replacement h s t) = refl

pub infer_fits : (i : Inference) (r : ℕ) (ns es is : List ℕ) → r ≡ number_of i → ns ≡ [] → es ≡ exprs_of i → length is ≡ premises_of i → IsTrue (step_fits (record { rule = r; numbers = ns; exprs = es; premises = is }))
infer_fits i r ns es is e f g h =
    subst (λ (s : ProofStep). IsTrue (step_fits s)) (λ j. record { rule = sym e j; numbers = sym f j; exprs = sym g j; premises = is })
    (fits_same (number_of i) (exprs_of i) is (zeros (premises_of i)) (h ∙ sym (zeros_are i)) (fits_zeros i))

firsts_on : (ps : List Proof) (is js : List ℕ) → firsts (length is) (proofs_on ps (is ++ js)) ≡ proofs_at ps is
firsts_on ps [] js = refl
firsts_on ps (i ∷ is) js = ap (λ (qs : Proofs). more (get_or ps i no_proof) qs) (firsts_on ps is js)

behind_on : (ps : List Proof) (is js : List ℕ) → behind (length is) (proofs_on ps (is ++ js)) ≡ proofs_on ps js
behind_on ps [] js = refl
behind_on ps (i ∷ is) js = behind_on ps is js

-- a step over the latest open proofs
applied_opens : (w : Written) (s : ProofStep) (n : ℕ) → length s.premises ≡ n → AreBelow (length w.steps) w.unused
    → opens (grown w s) ≡ applied (rule_of s.rule s.numbers (picked w.trees s.exprs)) n (opens (with_unused w s.premises))
unfolding opens
applied_opens w s n e h =
    let ps : List Proof = proofs_of w.trees w.steps in
    grown_opens w s h
    ∙ (λ i. step (rule_of s.rule s.numbers (picked w.trees s.exprs)) (sym (firsts_on ps s.premises w.unused) i) ∷ sym (behind_on ps s.premises w.unused) i)
    ∙ ap (λ m. applied (rule_of s.rule s.numbers (picked w.trees s.exprs)) m (proofs_on ps (s.premises ++ w.unused))) e

pub infer_ok : (v w u : Written) (i : Inference) (r : ℕ) (ns es is : List ℕ) → r ≡ number_of i → ns ≡ [] → es ≡ exprs_of i → length is ≡ premises_of i → v ≡ with_unused w is → IsWritten w
    → u ≡ grown w (record { rule = r; numbers = ns; exprs = es; premises = is }) → opens u ≡ applied (rule_at v.trees i) (premises_of i) (opens v)
infer_ok v w u i r ns es is e f g l k h q =
    let s : ProofStep = step_of i is in
    ap opens q ∙ ap (λ (x : ProofStep). opens (grown w x)) (λ j. record { rule = e j; numbers = f j; exprs = g j; premises = is }) ∙ applied_opens w s (premises_of i) l h.unused
    ∙ (λ j. applied (rule_is w.trees i j) (premises_of i) (opens (with_unused w is))) ∙ ap (λ (x : Written). applied (rule_at x.trees i) (premises_of i) (opens x)) (sym k)

pub schema_fits : (k z n : ℕ) (ns es is : List ℕ) → ns ≡ k ∷ z ∷ n ∷ [] → n ≡ length es → length is ≡ 1 → IsTrue (step_fits (record { rule = 21; numbers = ns; exprs = es; premises = is }))
unfolding step_fits premise_counts
schema_fits k z n ns es is e f g =
    subst (λ (l : List ℕ). IsTrue (step_fits (record { rule = 21; numbers = l; exprs = es; premises = is }))) (sym e)
    (subst (λ m. IsTrue (nat_eq m 1 && nat_eq (length es) n)) (sym g) (subst (λ m. IsTrue (nat_eq (length es) m)) (sym f) (eq-eqb (length es) (length es) refl)))

pub schema_ok : (v w u : Written) (k z n : ℕ) (ns es is : List ℕ) → ns ≡ k ∷ z ∷ n ∷ [] → length is ≡ 1 → v ≡ with_unused w is → IsWritten w → u ≡ grown w (record { rule = 21; numbers = ns; exprs = es; premises = is })
    → opens u ≡ over (Schema k z (picked v.trees es)) (first_of (opens v)) ∷ rest_of (opens v)
unfolding readings
schema_ok v w u k z n ns es is e l g h q =
    ap opens q ∙ applied_opens w (record { rule = 21; numbers = ns; exprs = es; premises = is }) 1 l h.unused
    ∙ ap (λ (x : List ℕ). applied (rule_of 21 x (picked w.trees es)) 1 (opens (with_unused w is))) e
    ∙ ap (λ (x : Written). applied (Schema k z (picked x.trees es)) 1 (opens x)) (sym g)
