-- The readers of proofs and obligations read what is written.
use Rattle.std.proofs.Common.{◌≡◌, ℕ, suc, ◌+◌, ◌-◌, ◌<◌, ◌≤◌, Bool, true, List, [], ◌∷◌, ◌++◌, length, map, take, refl, ap, sym, ◌∙◌, subst, arith, append_assoc, append-nil, length-append}
use Rattle.std.specs.List.{flat_map}
use Rattle.std.proofs.Math.Seq.{take-append_seam, take-append-add}
use Rattle.core_expr.specs.Nodes.{AreBelow, AreNodes}
use Rattle.seq_calculus.specs.declared.lists.ProofNode.{ProofNode}
use Rattle.seq_calculus.specs.declared.lists.ProofStep.{ProofStep}
use Rattle.seq_calculus.specs.Lists.{Lists, AreLists, AreSteps, AreApart, all_premises, node_of, written, written_step}
use Rattle.proof_text.specs.declared.cursor.Test.TheVariants.{Any, Positive, Below}
use Rattle.proof_text.specs.Texts.{Obligation, IsObligation, written_obligation, IsCanonText, IsProofText, ProofsDiffer, ObligationsDiffer}
use Rattle.proof_text.specs.Reading.{Answer, Reader, number, AreFrom, FaultIs, fault_at, text_fault, IsFirstBad, IsBadText}
use Rattle.proof_text.specs.declared.cursor.Fault.{Fault}
use Rattle.proof_text.specs.declared.cursor.Fault.TheVariants.{Bad, Memory}
use Rattle.proof_text.proofs.ReadLaws.{pair_took}
use Rattle.std.specs.Prelude.{Some}
use Rattle.proof_text.specs.Reading.Answer.{took, bad}
use Rattle.proof_text.specs.Readers.{passes, counted, behind, table, step, next_free, steps, counted_steps, made_lists, proof, formulas, same_obligation, obligation}
use Rattle.proof_text.proofs.Good.{Good, IsFault, one, good-number, good-pair, good-many, written-once}
use Rattle.proof_text.proofs.Formats.{counted_text, good-counted, less, less-true}
use Rattle.proof_text.proofs.NodeFormats.{IsTable, table_text, good-table}
use Rattle.proof_text.proofs.StepFormats.{IsStepAt, good-step}
use Rattle.proof_text.proofs.UseLaws.{allowed-steps, steps-allowed}

abbrev Steps : ℕ → ℕ → List ProofStep → Type 0
Steps n c ss = AreFrom (List Bool) ProofStep (IsStepAt n) next_free c [] ss

abbrev steps_text : List ProofStep → List ℕ
steps_text ss = flat_map written_step ss

good-steps : (n c : ℕ) → Good (List ProofStep) (Steps n c) steps_text (steps n c)
unfolding steps
good-steps n c = good-many (List Bool) ProofStep (IsStepAt n) written_step (step n) next_free (λ _ _. Unit {0}) (λ c s r. good-step n s) (λ c s a r v. tt) c [] tt

-- steps that a proof may have behind a table of n nodes
pub record AreProofSteps (n : ℕ) (ss : List ProofStep) : Type 0 where
  pub some : 0 < length ss
  pub steps : AreSteps n 0 ss
  pub once : AreApart (all_premises ss)

abbrev counted_steps_text : List ProofStep → List ℕ
counted_steps_text ss = length ss ∷ flat_map written_step ss

good-counted-steps : (n : ℕ) → Good (List ProofStep) (AreProofSteps n) counted_steps_text (counted_steps n)
unfolding counted_steps
good-counted-steps n =
    good-pair ℕ (List ProofStep) (List ProofStep) behind (λ ss. length ss) (λ ss. ss) (λ c. passes Positive c ≡ true) (Steps n) (AreProofSteps n) one (λ _. steps_text) counted_steps_text (number (passes Positive)) (steps n) (good-number (passes Positive) 1 refl) (λ c v. good-steps n c)
    (λ c ss p w. (let a = allowed-steps n ss w.all in (record { some = (let q = less 0 c p in omega (arith, w.count)); steps = a.0; once = a.1 }, (λ i. w.count i ∷ flat_map written_step ss))))
    (λ ss f. (less-true 0 (length ss) f.some, record { count = refl; all = steps-allowed n ss f.steps f.once }, refl, refl))

pub good-proof : Good Lists AreLists written proof
unfolding proof written
good-proof =
    good-pair (List ProofNode) (List ProofStep) Lists made_lists (λ l. l.nodes) (λ l. l.steps) (IsTable Any) (λ ns. AreProofSteps (length ns)) AreLists table_text (λ _. counted_steps_text) written (table Any) (λ ns. counted_steps (length ns)) (good-table Any 0 refl) (λ ns v. good-counted-steps (length ns))
    (λ ns ss v w. (record { nodes = v.nodes; steps = w.steps; once = w.once; some = w.some }, refl))
    (λ l f. (record { count = refl; nodes = f.nodes }, record { some = f.some; steps = f.steps; once = f.once }, refl, refl))

-- the facts and the goal of an obligation with this table
pub record AreFormulas (ns : List ProofNode) (o : Obligation) : Type 0 where
  pub nodes : o.nodes ≡ ns
  pub facts : AreBelow (length ns) o.facts
  pub goal : passes (Below (length ns)) o.goal ≡ true

abbrev formulas_text : Obligation → List ℕ
formulas_text o = length o.facts ∷ (o.facts ++ o.goal ∷ [])

good-formulas : (ns : List ProofNode) → 0 < length ns → Good Obligation (AreFormulas ns) formulas_text (formulas ns)
unfolding formulas
good-formulas ns h =
    good-pair (List ℕ) ℕ Obligation (λ fs g. record { nodes = ns; facts = fs; goal = g }) (λ o. o.facts) (λ o. o.goal) (AreBelow (length ns)) (λ _ g. passes (Below (length ns)) g ≡ true) (AreFormulas ns) counted_text (λ _. one) formulas_text (counted (length ns)) (λ _. number (passes (Below (length ns)))) (good-counted (length ns)) (λ _ _. good-number (passes (Below (length ns))) 0 (less-true 0 (length ns) h))
    (λ fs g v w. (record { nodes = refl; facts = v; goal = w }, refl))
    (λ o f. (f.facts, f.goal, (λ i. record { nodes = sym f.nodes i; facts = o.facts; goal = o.goal }), refl))

pub good-obligation : Good Obligation IsObligation written_obligation obligation
unfolding obligation written_obligation
good-obligation =
    good-pair (List ProofNode) Obligation Obligation same_obligation (λ o. o.nodes) (λ o. o) (IsTable Positive) AreFormulas IsObligation table_text (λ _. formulas_text) written_obligation (table Positive) formulas (good-table Positive 1 refl) (λ ns v. good-formulas ns (less 0 (length ns) v.count))
    (λ ns o v w. (
      record {
        nodes = subst (λ ns. AreNodes 0 (map node_of ns)) (sym w.nodes) v.nodes;
        facts = subst (λ ns. AreBelow (length ns) o.facts) (sym w.nodes) w.facts;
        goal = subst (λ ns. o.goal < length ns) (sym w.nodes) (less o.goal (length ns) w.goal);
      },
      (λ i. table_text (w.nodes i) ++ formulas_text o),
    ))
    (λ o f. (record { count = less-true 0 (length o.nodes) (let g = f.goal in omega arith); nodes = f.nodes }, record { nodes = refl; facts = f.facts; goal = less-true o.goal (length o.nodes) f.goal }, refl, refl))

-- ---- the first bad place of a list

module _ (A : Type 0) (V : A → Type 0) (w : A → List ℕ) (r : Reader A) (good : Good A V w r) where
  abbrev IsText : List ℕ → Type 0
  IsText l = (a : A) × V a × (w a ≡ l)

  -- what a text is read as
  read-text : (l : List ℕ) (t : IsText l) → r l ≡ took t.0 []
  read-text l t = ap r (sym t.2 ∙ sym (append-nil (w t.0))) ∙ good.complete t.0 [] t.1

  cut : (l front m : List ℕ) → l ≡ front ++ m → length l - length m ≡ length front
  cut l front m e = omega (arith, ap length e, length-append front m)

  cut-take : (l front m : List ℕ) → l ≡ front ++ m → take (length l - length m) l ≡ front
  cut-take l front m e = (λ i. take (cut l front m e i) (e i)) ∙ take-append_seam front m

  cut-more : (l front : List ℕ) (x : ℕ) (m : List ℕ) → l ≡ front ++ x ∷ m → take (suc (length l - length (x ∷ m))) l ≡ front ++ x ∷ []
  cut-more l front x m e =
      let n : suc (length l - length (x ∷ m)) ≡ length front + 1 = omega (arith, cut l front (x ∷ m) e) in
      (λ i. take (n i) (e i)) ∙ take-append-add front (x ∷ m) 1

  pub bad-first : (l m : List ℕ) → r l ≡ bad m → IsFirstBad IsText l (length l - length m)
  bad-first l m h =
      let f = good.fault l m h in
      record {
        none = λ t. (let e = sym h ∙ read-text l t in cc);
        within = omega arith;
        before = (f.rest, (f.value, f.valid, f.goes ∙ ap (λ z. z ++ f.rest) (sym (cut-take l f.front m f.is))));
        at = stuck m f;
      }
    where
      stuck : (m : List ℕ) (f : IsFault A V w l m) → length l - length m < length l → (rest : List ℕ) → ¬ IsText (take (suc (length l - length m)) l ++ rest)
      stuck [] f p rest t = absurd (omega arith)
      stuck (x ∷ n) f p rest t =
          f.stuck x n refl t.0 rest [] t.1 (append-nil (w t.0) ∙ t.2 ∙ ap (λ z. z ++ rest) (cut-more l f.front x n f.is) ∙ append_assoc f.front (x ∷ []) rest)

  pub more-first : (l : List ℕ) (a : A) (x : ℕ) (m : List ℕ) → r l ≡ took a (x ∷ m) → IsFirstBad IsText l (length l - length (x ∷ m))
  more-first l a x m h =
      let s = good.sound l a (x ∷ m) h in
      record {
        none = λ t. (let e = sym h ∙ read-text l t in cc);
        within = omega arith;
        before = ([], (a, s.0, sym (append-nil (w a)) ∙ ap (λ z. z ++ []) (sym (cut-take l (w a) (x ∷ m) s.1))));
        at = λ p rest t.
            let e : w t.0 ≡ w a ++ x ∷ rest = t.2 ∙ ap (λ z. z ++ rest) (cut-more l (w a) x m s.1) ∙ append_assoc (w a) (x ∷ []) rest in
            let both : took t.0 [] ≡ took a (x ∷ rest) = sym (good.complete t.0 [] t.1) ∙ ap r (append-nil (w t.0) ∙ e) ∙ good.complete a (x ∷ rest) s.0 in
            cc;
      }

-- ---- what was read

pub proof_allowed : (l m k : List ℕ) (ns : List ProofNode) (ss : List ProofStep) (n : ℕ) → table Any l ≡ took ns m → n ≡ length ns → counted_steps n m ≡ took ss k → AreLists (record { nodes = ns; steps = ss })
unfolding proof
proof_allowed l m k ns ss n e f g =
    (good-proof.sound l (record { nodes = ns; steps = ss }) k (pair_took made_lists (table Any) (λ ns. counted_steps (length ns)) l ns m ss k e (ap (λ n. counted_steps n m) (sym f) ∙ g))).0

module _ (A : Type 0) (V : A → Type 0) (w : A → List ℕ) (r : Reader A) (good : Good A V w r) where
  pub read_whole : (l k : List ℕ) (a : A) (m : List ℕ) → k ≡ l → r k ≡ took a m → length m ≤ 0 → V a × (w a ≡ l)
  read_whole l k a [] e h z = let s = good.sound l a [] (ap r (sym e) ∙ h) in (s.0, sym (s.1 ∙ append-nil (w a)))
  read_whole l k a (x ∷ m) e h z = absurd (omega arith)

  pub read_more : (l k : List ℕ) (a : A) (m : List ℕ) (n : ℕ) → k ≡ l → r k ≡ took a m → n ≡ length m → 0 < n → IsFirstBad (IsText A V w r good) l (length l - n)
  read_more l k a [] n e h f z = absurd (omega arith)
  read_more l k a (x ∷ m) n e h f z = subst (λ n. IsFirstBad (IsText A V w r good) l (length l - n)) (sym f) (more-first A V w r good l a x m (ap r (sym e) ∙ h))

  pub read_bad : (l k : List ℕ) (n : ℕ) → k ≡ l → fault_at (r k) ≡ Some n → IsFirstBad (IsText A V w r good) l (length l - n)
  read_bad l k n e h = go (r l) refl (ap (λ k. fault_at (r k)) (sym e) ∙ h)
    where
      go : (x : Answer A) → r l ≡ x → fault_at x ≡ Some n → IsFirstBad (IsText A V w r good) l (length l - n)
      go (took p m) q h = cc
      go (bad m) q h = let f : length m ≡ n = cc in subst (λ n. IsFirstBad (IsText A V w r good) l (length l - n)) f (bad-first A V w r good l m q)

pub proof_whole : (l k : List ℕ) (p : Lists) (m : List ℕ) → k ≡ l → proof k ≡ took p m → length m ≤ 0 → AreLists p × (written p ≡ l)
proof_whole = read_whole Lists AreLists written proof good-proof

pub proof_more : (l k : List ℕ) (p : Lists) (m : List ℕ) (n : ℕ) → k ≡ l → proof k ≡ took p m → n ≡ length m → 0 < n → IsFirstBad IsProofText l (length l - n)
proof_more = read_more Lists AreLists written proof good-proof

pub proof_bad : (l k : List ℕ) (e : Fault) → k ≡ l → FaultIs e (fault_at (proof k)) → IsBadText IsProofText l (text_fault (length l) e)
proof_bad l k (Bad n) e h = read_bad Lists AreLists written proof good-proof l k n e h
proof_bad l k Memory e h = tt

pub obligation_whole : (l k : List ℕ) (o : Obligation) (m : List ℕ) → k ≡ l → obligation k ≡ took o m → length m ≤ 0 → IsObligation o × (written_obligation o ≡ l)
obligation_whole = read_whole Obligation IsObligation written_obligation obligation good-obligation

pub obligation_more : (l k : List ℕ) (o : Obligation) (m : List ℕ) (n : ℕ) → k ≡ l → obligation k ≡ took o m → n ≡ length m → 0 < n → IsFirstBad IsCanonText l (length l - n)
obligation_more = read_more Obligation IsObligation written_obligation obligation good-obligation

pub obligation_bad : (l k : List ℕ) (e : Fault) → k ≡ l → FaultIs e (fault_at (obligation k)) → IsBadText IsCanonText l (text_fault (length l) e)
obligation_bad l k (Bad n) e h = read_bad Obligation IsObligation written_obligation obligation good-obligation l k n e h
obligation_bad l k Memory e h = tt

pub proofs_differ : ProofsDiffer
proofs_differ = written-once Lists AreLists written proof good-proof

pub obligations_differ : ObligationsDiffer
obligations_differ = written-once Obligation IsObligation written_obligation obligation good-obligation
