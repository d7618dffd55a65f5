-- The lists of a proof's tree may stand for a proof, and it has that tree.
use Rattle.std.proofs.Common.{◌≡◌, ℕ, suc, ◌+◌, ◌-◌, ◌<◌, ◌≤◌, List, [], ◌∷◌, ◌++◌, length, get_or, refl, ap, sym, ◌∙◌, subst, arith, append_assoc, append-nil, length-append, ◌⊎◌, inl, inr}
use Rattle.std.proofs.lemmas.Bool.{cases_order}
use Rattle.std.proofs.lemmas.Grind.{flat_map-append}
use Rattle.std.proofs.lemmas.List.{get_or_append_left, get_or_at, length_push}
use Rattle.core_expr.specs.Tree.{Tree}
use Rattle.core_expr.specs.Nodes.{AreBelow}
use Rattle.core_expr.specs.Laws.{CanonicalIsNode, NodeIsCanonical}
use Rattle.seq_calculus.specs.declared.lists.ProofNode.{ProofNode}
use Rattle.seq_calculus.specs.declared.lists.ProofStep.{ProofStep}
use Rattle.seq_calculus.specs.Calculus.{Rule, Proof, Proofs}
use Rattle.seq_calculus.specs.Calculus.Proof.{step}
use Rattle.seq_calculus.specs.Calculus.Proofs.{no_more, more}
use Rattle.seq_calculus.specs.Lists.{Lists, AreLists, AreSteps, IsStep, all_premises, written}
use Rattle.seq_calculus.specs.Steps.{rule_of, no_proof, proofs_at, proof_in, proofs_from, proofs_of, proof_of, table_of}
use Rattle.proof_text.specs.Texts.{trees_in, ProofsDiffer}
use Rattle.proof_text.proofs.TableTrees.{length-picked}
use Rattle.text_writer.specs.Tables.{enter_all}
use Rattle.text_writer.specs.Proofs.{kept, with_step, enter_proof, enter_proofs, no_lists, lists_of, proof_list}
use Rattle.text_writer.specs.Laws.{ProofIsShown, AlikeIfSame}
use Rattle.text_writer.proofs.PutLaws.{Extends, same, join}
use Rattle.text_writer.proofs.EnterLaws.{extends-all}
use Rattle.text_writer.proofs.TreeLaws.{IsTable, all-stand, picked-stays, below-wider, extends-length}
use Rattle.text_writer.proofs.StepLaws.{proofs-grow}
use Rattle.text_writer.proofs.ApartLaws.{times, times-append, times-here, times-other, apart-once, below-none}
use Rattle.text_writer.proofs.FitLaws.{proof_count, IsFitStep, IsFit, AreFit, fit-at}

-- ---- steps over a table that grew

steps-wider : (n m i : ℕ) (ss : List ProofStep) → n ≤ m → AreSteps n i ss → AreSteps m i ss
steps-wider n m i [] e h = tt
steps-wider n m i (s ∷ ss) e h = (record { form = h.0.form; exprs = below-wider n m s.exprs e h.0.exprs; premises = h.0.premises }, steps-wider n m (suc i) ss e h.1)

steps-more : (n i k : ℕ) (ss : List ProofStep) (s : ProofStep) → k ≡ i + length ss → AreSteps n i ss → IsStep n k s → AreSteps n i (ss ++ s ∷ [])
steps-more n i k [] s e h w = let z : k ≡ i = omega arith in (subst (λ j. IsStep n j s) z w, tt)
steps-more n i k (t ∷ ss) s e h w = (h.0, steps-more n (suc i) k ss s (omega arith) h.1 w)

proofs-split : (ts : List Tree) (ps : List Proof) (ss us : List ProofStep) → proofs_from ts ps (ss ++ us) ≡ proofs_from ts (proofs_from ts ps ss) us
proofs-split ts ps [] us = refl
proofs-split ts ps (s ∷ ss) us = proofs-split ts (ps ++ proof_in ts ps s ∷ []) ss us

proofs-length : (ts : List Tree) (ps : List Proof) (ss : List ProofStep) (n : ℕ) → n ≡ length ps + length ss → length (proofs_from ts ps ss) ≡ n
proofs-length ts ps [] n e = omega arith
proofs-length ts ps (s ∷ ss) n e = proofs-length ts (ps ++ proof_in ts ps s ∷ []) ss n (omega (arith, length_push ps (proof_in ts ps s)))

proofs-wider : (ns new : List ProofNode) (i : ℕ) (ps : List Proof) (ss : List ProofStep) → Extends ns new → AreSteps (length ns) i ss → proofs_from (trees_in new) ps ss ≡ proofs_from (trees_in ns) ps ss
proofs-wider ns new i ps [] x h = refl
proofs-wider ns new i ps (s ∷ ss) x h =
    ap (λ es. proofs_from (trees_in new) (ps ++ step (rule_of s.rule s.numbers es) (proofs_at ps s.premises) ∷ []) ss) (picked-stays ns new s.exprs x h.0.exprs)
    ∙ proofs-wider ns new (suc i) (ps ++ proof_in (trees_in ns) ps s ∷ []) ss x h.1

abbrev proofs_in : Lists → List Proof
proofs_in l = proofs_of (table_of l) l.steps

-- lists with steps that may stand in them
record IsMade (l : Lists) : Type 0 where
  table : IsTable l.nodes
  steps : AreSteps (length l.nodes) 0 l.steps

proofs-stay : (l new : Lists) (ss : List ProofStep) → IsMade l → Extends l.nodes new.nodes → new.steps ≡ l.steps ++ ss → (qs : List Proof) × (proofs_in new ≡ proofs_in l ++ qs)
proofs-stay l new ss h x e =
    let g = proofs-grow (table_of new) (proofs_in l) ss in
    (g.0, ap (proofs_of (table_of new)) e ∙ proofs-split (table_of new) [] l.steps ss ∙ ap (λ ps. proofs_from (table_of new) ps ss) (proofs-wider l.nodes new.nodes 0 [] l.steps x h.steps) ∙ g.1)

-- ---- what entering proofs adds

-- how often a step is a premise of these or stands in these places
abbrev uses : ℕ → List ProofStep → List ℕ → ℕ
uses n ss ps = times n (all_premises ss) + times n ps

-- steps that come to lists, and the places of those that are to be premises: no other step of the new ones is, and each once
record Adds (l new : Lists) (ps : List ℕ) : Type 0 where
  grows : Extends l.nodes new.nodes
  steps : List ProofStep
  steps_are : new.steps ≡ l.steps ++ steps
  made : IsMade new
  once : (n : ℕ) → uses n steps ps ≤ 1
  low : (n : ℕ) → n < length l.steps → uses n steps ps ≡ 0
  high : (n : ℕ) → length new.steps ≤ n → uses n steps ps ≡ 0

adds-none : (l : Lists) → IsMade l → Adds l l []
adds-none l h = record {
  grows = same l.nodes;
  steps = [];
  steps_are = sym (append-nil l.steps);
  made = h;
  once = λ n. omega arith;
  low = λ n k. omega arith;
  high = λ n k. omega arith;
}

more-steps : (l new : Lists) (ss : List ProofStep) → new.steps ≡ l.steps ++ ss → length l.steps ≤ length new.steps
more-steps l new ss e = let f = ap length e in omega (arith, length-append l.steps ss, f)

adds-first : (l m new : Lists) (p : ℕ) (ps : List ℕ) → Adds l m (p ∷ []) → Adds m new ps → Adds l new (p ∷ ps)
adds-first l m new p ps a b = record {
  grows = join a.grows b.grows;
  steps = a.steps ++ b.steps;
  steps_are = b.steps_are ∙ ap (λ ss. ss ++ b.steps) a.steps_are ∙ append_assoc l.steps a.steps b.steps;
  made = b.made;
  once = λ n. go n (cases_order n (length m.steps));
  low = λ n k. omega (arith, total n, a.low n k, b.low n (omega (arith, k, more-steps l m a.steps a.steps_are)));
  high = λ n k. omega (arith, total n, b.high n k, a.high n (omega (arith, k, more-steps m new b.steps b.steps_are)));
}
  where
    total : (n : ℕ) → uses n (a.steps ++ b.steps) (p ∷ ps) ≡ uses n a.steps (p ∷ []) + uses n b.steps ps
    total n =
        let e = ap (times n) (flat_map-append (λ (s : ProofStep). s.premises) a.steps b.steps) ∙ times-append n (all_premises a.steps) (all_premises b.steps) in
        omega (arith, e, times-append n (p ∷ []) ps)

    go : (n : ℕ) → (n ≡ length m.steps) ⊎ ((n < length m.steps) ⊎ (length m.steps < n)) → uses n (a.steps ++ b.steps) (p ∷ ps) ≤ 1
    go n (inl e) = omega (arith, total n, a.high n (omega arith), b.once n)
    go n (inr (inl k)) = omega (arith, total n, b.low n k, a.once n)
    go n (inr (inr k)) = omega (arith, total n, a.high n (omega arith), b.once n)

-- a last step over these premises, which is to be a premise itself
uses-step : (n i : ℕ) (ss : List ProofStep) (s : ProofStep) → uses n (ss ++ s ∷ []) (i ∷ []) ≡ uses n ss s.premises + times n (i ∷ [])
uses-step n i ss s =
    let e = ap (times n) (flat_map-append (λ (s : ProofStep). s.premises) ss (s ∷ [])) ∙ times-append n (all_premises ss) (s.premises ++ []) ∙ ap (λ l. times n (all_premises ss) + times n l) (append-nil s.premises) in
    omega (arith, e)

one-more : (ss : List ProofStep) (s : ProofStep) → length (ss ++ s ∷ []) ≡ suc (length ss)
one-more ss s = omega (arith, length-append ss (s ∷ []))

-- a proof's own step is the last one
last-place : (p : Proof) (l : Lists) → length (enter_proof p l).lists.steps ≡ suc (enter_proof p l).place
last-place (step r ps) l = one-more (enter_proofs ps l).lists.steps _

once-more : {l m : Lists} {qs : List ℕ} (a : Adds l m qs) (i n : ℕ) (s : ProofStep) → i ≡ length m.steps → s.premises ≡ qs → (n ≡ i) ⊎ ((n < i) ⊎ (i < n)) → uses n (a.steps ++ s ∷ []) (i ∷ []) ≤ 1
once-more a i n s e f (inl q) =
    let z = a.high n (omega arith) in
    let t = ap (λ ps. uses n a.steps ps) f in
    let h = ap (λ j. times n (j ∷ [])) (sym q) ∙ times-here n [] in
    omega (arith, uses-step n i a.steps s, z, t, h)
once-more a i n s e f (inr q) =
    let d : n ≡ i → ⊥ = (λ z. elim q [ inl l ↦ (let b : ⊥ = omega (arith, l, z) in b) | inr g ↦ (let b : ⊥ = omega (arith, g, z) in b) ]) in
    let t = ap (λ ps. uses n a.steps ps) f in
    omega (arith, uses-step n i a.steps s, a.once n, t, times-other n i [] d)

module _ (law : CanonicalIsNode) where
  -- a step comes to the lists
  step-adds : (r : Rule) (k : ℕ) (l m : Lists) (qs : List ℕ) → IsFitStep r (kept r) k → Adds l m qs → length qs ≡ k
      → (let e = with_step (kept r) (record { lists = m; places = qs }) in Adds l e.lists (e.place ∷ []) × (get_or (proofs_in e.lists) e.place no_proof ≡ step r (proofs_at (proofs_in m) qs)))
  step-adds r k l m qs f a c =
      let w = kept r in
      let t = enter_all w.exprs m.nodes in
      let h = all-stand law w.exprs m.nodes f.exprs a.made.table in
      let x = extends-all w.exprs m.nodes in
      let s : ProofStep = record { rule = w.rule; numbers = w.numbers; exprs = t.places; premises = qs } in
      let i : ℕ = length m.steps in
      let count : length t.places ≡ length w.exprs = sym (length-picked (trees_in t.nodes) t.places) ∙ ap length h.trees in
      let below : AreBelow i qs = below-none i qs (λ n l. (let z = a.high n l in omega (arith, z))) in
      let is : IsStep (length t.nodes) i s = record { form = f.form t.places qs count c; exprs = h.within; premises = below } in
      let total = λ (n : ℕ). uses-step n i a.steps s in
      let other = λ (n : ℕ) (d : n ≡ i → ⊥). times-other n i [] d in
      let ps = proofs_in m in
      let from : proofs_of (trees_in t.nodes) m.steps ≡ ps = proofs-wider m.nodes t.nodes 0 [] m.steps x a.made.steps in
      let all : proofs_of (trees_in t.nodes) (m.steps ++ s ∷ []) ≡ ps ++ proof_in (trees_in t.nodes) ps s ∷ [] =
      proofs-split (trees_in t.nodes) [] m.steps (s ∷ []) ∙ ap (λ ps. proofs_from (trees_in t.nodes) ps (s ∷ [])) from in (
        record {
          grows = join a.grows x;
          steps = a.steps ++ s ∷ [];
          steps_are = ap (λ ss. ss ++ s ∷ []) a.steps_are ∙ append_assoc l.steps a.steps (s ∷ []);
          made = record { table = h.table; steps = steps-more (length t.nodes) 0 i m.steps s (omega arith) (steps-wider (length m.nodes) (length t.nodes) 0 m.steps (extends-length m.nodes t.nodes x) a.made.steps) is };
          once = λ n. once-more a i n s refl refl (cases_order n i);
          low = λ n j. (let z = a.low n j in omega (arith, total n, z, other n (omega (arith, j, more-steps l m a.steps a.steps_are))));
          high = λ n j. (let z = a.high n (omega (arith, j, length-append m.steps (s ∷ []))) in omega (arith, total n, z, other n (omega (arith, j, length-append m.steps (s ∷ [])))));
        },
        ap (λ ps. get_or ps i no_proof) all ∙ get_or_at ps (proof_in (trees_in t.nodes) ps s) [] no_proof i (proofs-length (table_of m) [] m.steps i (omega arith))
            ∙ ap (λ es. step (rule_of w.rule w.numbers es) (proofs_at ps qs)) h.trees ∙ ap (λ r. step r (proofs_at ps qs)) f.back,
      )

  mutual
    adds : (p : Proof) (l : Lists) → IsFit p → IsMade l → Adds l (enter_proof p l).lists ((enter_proof p l).place ∷ []) × (get_or (proofs_in (enter_proof p l).lists) (enter_proof p l).place no_proof ≡ p)
    adds (step r ps) l f h =
        let a = enter_proofs ps l in
        let b = adds-all ps l f.1 h in
        let c = step-adds r (proof_count ps) l a.lists a.places f.0 b.0 b.1 in
        (c.0, c.1 ∙ ap (step r) b.2)

    adds-all : (ps : Proofs) (l : Lists) → AreFit ps → IsMade l → Adds l (enter_proofs ps l).lists (enter_proofs ps l).places × (length (enter_proofs ps l).places ≡ proof_count ps) × (proofs_at (proofs_in (enter_proofs ps l).lists) (enter_proofs ps l).places ≡ ps)
    adds-all no_more l f h = (adds-none l h, refl, refl)
    adds-all (more p ps) l f h =
        let e = enter_proof p l in
        let a = enter_proofs ps e.lists in
        let b = adds p l f.0 h in
        let c = adds-all ps e.lists f.1 b.0.made in
        let g = proofs-stay e.lists a.lists c.0.steps b.0.made c.0.grows c.0.steps_are in
        let w : e.place < length (proofs_in e.lists) = omega (arith, last-place p l, proofs-length (table_of e.lists) [] e.lists.steps (length e.lists.steps) (omega arith)) in (
          adds-first l e.lists a.lists e.place a.places b.0 c.0,
          ap suc c.1,
          λ i. more ((ap (λ qs. get_or qs e.place no_proof) g.1 ∙ get_or_append_left (proofs_in e.lists) g.0 no_proof e.place w ∙ b.1) i) (c.2 i),
        )

  -- the lists of a fit tree may stand for a proof, and it has that tree
  fit-made : (p : Proof) → IsFit p → AreLists (lists_of p) × (proof_of (lists_of p) ≡ p)
  unfolding proof_of
  fit-made p f =
      let a = adds p no_lists f (record { table = tt; steps = tt }) in
      let e = enter_proof p no_lists in
      let k = last-place p no_lists in
      let i : length e.lists.steps - 1 ≡ e.place = omega (arith, k) in (
        record {
          nodes = a.0.made.table;
          steps = a.0.made.steps;
          once = apart-once (all_premises e.lists.steps) (λ n. (let q = ap (λ ss. times n (all_premises ss)) a.0.steps_are in omega (arith, q, a.0.once n)));
          some = omega (arith, k);
        },
        ap (λ i. get_or (proofs_in e.lists) i no_proof) i ∙ a.1,
      )

  -- what is written of a proof is read back as one with the same tree
  pub proof-shown : NodeIsCanonical → ProofIsShown
  unfolding proof_of proof_list
  proof-shown law2 l h =
      let a = fit-made (proof_of l) (fit-at law2 l h (length l.steps - 1) (omega (arith, h.some))) in
      (lists_of (proof_of l), a.0, refl, a.1)

  -- proofs are written alike exactly where they have the same tree
  pub alike-same : NodeIsCanonical → ProofsDiffer → AlikeIfSame
  unfolding proof_list
  alike-same law2 differ l m h k =
      let a = proof-shown law2 l h in
      let b = proof-shown law2 m k in
      ((λ e. sym a.3 ∙ ap proof_of (differ a.0 b.0 a.1 b.1 (a.2 ∙ e ∙ sym b.2)) ∙ b.3), (λ e. ap (λ p. written (lists_of p)) e))
