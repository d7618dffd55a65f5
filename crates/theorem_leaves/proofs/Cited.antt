-- What a written proof cites is what its proof over cores cites.
use Rattle.std.proofs.Common.{◌≡◌, ℕ, suc, ◌+◌, Bool, true, false, if◌then◌else◌, List, [], ◌∷◌, ◌++◌, map, append_assoc, refl, sym, ap, ◌∙◌}
use Rattle.std.specs.Prelude.{Option, Some, None, codes}
use Rattle.std.proofs.lemmas.List.{append-nil}
use Rattle.tla_ast.specs.declared.place.Place.{Place}
use Rattle.tla_ast.specs.declared.tree.Decl.{Decl}
use Rattle.symbol_table.specs.declared.entry.Entry.{Entry}
use Rattle.plain_syntax.specs.Plain.{Text, Term, Terms, Groups, Fact, Move as move, Proof, Steps}
use Rattle.plain_syntax.specs.Plain.Term.{term}
use Rattle.plain_syntax.specs.Plain.Shape.{infixed}
use Rattle.plain_syntax.specs.Plain.Terms.{none, part}
use Rattle.plain_syntax.specs.Plain.Groups.{end_groups, free, within}
use Rattle.plain_syntax.specs.Plain.Fact.{step_name, whole}
use Rattle.plain_syntax.specs.Plain.Proof.{missing, obvious, omitted, by_facts, steps}
use Rattle.plain_syntax.specs.Plain.Steps.{end_steps, step}
use Rattle.prime_expand.specs.Symbols.{is_word}
use Rattle.proof_contexts.specs.Steps as c
use Rattle.proof_contexts.specs.Steps.{Step as act}
use Rattle.proof_contexts.specs.Statuses.{cites_facts, cites, cites_steps, cites_step}
use Rattle.usable_facts.specs.Keys.{label_key}
use Rattle.usable_facts.specs.Proofs.{count, core, constant, by_step, by_term, step_keys as named_step, entry_keys, fact_name, facts, hidden, takes, witness, witnesses, acts, nexts, proof_of, steps_of}
use Rattle.theorem_leaves.specs.Citations.{is_qed, before_qed, step_keys, keys_in, keys_in_steps}

module _ (means : Place → Option ℕ) (cite : Place → Option ℕ) (entries : List Entry) where
  step-fact : (o : Option ℕ) (fs : List c.Fact) → cites_facts (by_step means cite entries o ++ fs) ≡ named_step means cite entries o ++ cites_facts fs
  step-fact None fs = refl
  step-fact (Some n) fs = refl

  term-fact : (o : Option ℕ) (p : Place) (t : Term) (fs : List c.Fact) → cites_facts (by_term means cite entries o p t ∷ fs) ≡ entry_keys means cite entries o ++ cites_facts fs
  term-fact None p t fs = refl
  term-fact (Some n) p t fs = refl

  facts-cite : (fs : List Fact) → cites_facts (facts means cite entries fs) ≡ hidden means cite entries fs
  facts-cite [] = refl
  facts-cite (step_name l w p ∷ fs) = step-fact (cite p) (facts means cite entries fs) ∙ ap (λ k. named_step means cite entries (cite p) ++ k) (facts-cite fs)
  facts-cite (whole p t ∷ fs) =
      term-fact (fact_name means cite entries t) p t (facts means cite entries fs) ∙ ap (λ k. entry_keys means cite entries (fact_name means cite entries t) ++ k) (facts-cite fs)

  -- ---- steps

  abbrev acts-cite : List c.Step → List ℕ
  acts-cite [] = []
  acts-cite (a ∷ xs) = cites_step a ++ acts-cite xs

  acts-append : (xs ys : List c.Step) → acts-cite (xs ++ ys) ≡ acts-cite xs ++ acts-cite ys
  acts-append [] ys = refl
  acts-append (a ∷ xs) ys = ap (λ k. cites_step a ++ k) (acts-append xs ys) ∙ sym (append_assoc (cites_step a) (acts-cite xs) (acts-cite ys))

  none-behind : (xs ys : List c.Step) → acts-cite xs ≡ [] → acts-cite ys ≡ [] → acts-cite (xs ++ ys) ≡ []
  none-behind xs ys h k = acts-append xs ys ∙ (λ i. h i ++ k i)

  nexts-cite : (q : Place) (xs : List c.Step) (rest : c.Steps) → cites_steps (nexts q xs rest) ≡ acts-cite xs ++ cites_steps rest
  nexts-cite q [] rest = refl
  nexts-cite q (a ∷ xs) rest = ap (λ k. cites_step a ++ k) (nexts-cite q xs rest) ∙ sym (append_assoc (cites_step a) (acts-cite xs) (cites_steps rest))

  taken : (ds : List Decl) → acts-cite (map (λ d. act.Take (constant means cite entries d)) ds) ≡ []
  taken [] = refl
  taken (d ∷ ds) = taken ds

  taken-in : (l : Option ℕ) (s : _) (ds : List Decl) → acts-cite (map (λ d. act.TakeIn l (constant means cite entries d) s) ds) ≡ []
  taken-in l s [] = refl
  taken-in l s (d ∷ ds) = taken-in l s ds

  takes-cite : (l : Option ℕ) (gs : Groups) → acts-cite (takes means cite entries l gs) ≡ []
  takes-cite l end_groups = refl
  takes-cite l (free ds gs) = none-behind (map (λ d. act.Take (constant means cite entries d)) ds) (takes means cite entries l gs) (taken ds) (takes-cite l gs)
  takes-cite l (within ds t gs) = none-behind (map (λ d. act.TakeIn l (constant means cite entries d) (core means entries t)) ds) (takes means cite entries l gs) (taken-in l (core means entries t) ds) (takes-cite l gs)

  infix-cites : (l : Option ℕ) (o : Text) (ts : Terms) (p : Place) → cites_step (witness means cite entries l (term (infixed o) ts p)) ≡ []
  infix-cites l o none p = refl
  infix-cites l o (part a none) p = refl
  infix-cites l o (part a (part b (part d ts))) p = refl
  infix-cites l o (part a (part b none)) p = go (is_word o (codes "\\in"))
    where
      go : (m : Bool) → cites_step (if m then act.WitnessIn l (core means entries a) (core means entries b) else act.Witness (core means entries (term (infixed o) (part a (part b none)) p))) ≡ []
      go true = refl
      go false = refl

  witness-cites : (l : Option ℕ) (t : Term) → cites_step (witness means cite entries l t) ≡ []
  witness-cites l (term s ts p) = elim s as (λ s. cites_step (witness means cite entries l (term s ts p)) ≡ []) [ infixed o ↦ infix-cites l o ts p | _ ↦ refl ]

  witnesses-cite : (l : Option ℕ) (ts : Terms) → acts-cite (witnesses means cite entries l ts) ≡ []
  witnesses-cite l none = refl
  witnesses-cite l (part t ts) = (λ i. witness-cites l t i ++ witnesses-cite l ts i)

  acts-keys : (l : Option ℕ) (m : move) (own : c.Proof) → is_qed m ≡ false → acts-cite (acts means cite entries l m own) ≡ step_keys means cite entries m (cites own)
  acts-keys l (move.assert s) own h = append-nil (cites own)
  acts-keys l (move.case t) own h = append-nil (cites own)
  acts-keys l (move.suffices s) own h = append-nil (cites own)
  acts-keys l (move.have t) own h = refl
  acts-keys l (move.take gs) own h = takes-cite l gs
  acts-keys l (move.witness ts) own h = witnesses-cite l ts
  acts-keys l (move.pick gs t) own h = append-nil (cites own)
  acts-keys l (move.define ds) own h = refl
  acts-keys l (move.add fs ds) own h = append-nil (cites_facts (facts means cite entries fs)) ∙ facts-cite fs
  acts-keys l (move.hide fs ds) own h = refl
  acts-keys l move.qed own h = cc

  -- ---- proofs

  by-acts : (q : Place) (w : Text) (m : move) (own : Proof) (ss : Steps) (p : Place) (n : ℕ) → is_qed m ≡ false
      → cites (proof_of means cite entries q (suc n) own) ≡ keys_in means cite entries own
      → cites_steps (steps_of means cite entries p (suc n + count own) ss) ≡ keys_in_steps means cite entries ss
      → cites_steps (nexts q (acts means cite entries (label_key n w) m (proof_of means cite entries q (suc n) own)) (steps_of means cite entries p (suc n + count own) ss))
      ≡ step_keys means cite entries m (keys_in means cite entries own) ++ before_qed m (keys_in_steps means cite entries ss)
  by-acts q w m own ss p n h k r =
      nexts-cite q (acts means cite entries (label_key n w) m (proof_of means cite entries q (suc n) own)) (steps_of means cite entries p (suc n + count own) ss)
      ∙ (λ i. (acts-keys (label_key n w) m (proof_of means cite entries q (suc n) own) h ∙ ap (step_keys means cite entries m) k) i ++ r i)
      ∙ ap (λ b. step_keys means cite entries m (keys_in means cite entries own) ++ (if b then [] else keys_in_steps means cite entries ss)) (sym h)

  mutual
    pub proof-cites : (x : Proof) (p : Place) (n : ℕ) → cites (proof_of means cite entries p n x) ≡ keys_in means cite entries x
    proof-cites missing p n = refl
    proof-cites (obvious q) p n = refl
    proof-cites (omitted q) p n = refl
    proof-cites (by_facts q only fs ds) p n = facts-cite fs
    proof-cites (steps ss) p n = steps-cite ss p n

    steps-cite : (ss : Steps) (p : Place) (n : ℕ) → cites_steps (steps_of means cite entries p n ss) ≡ keys_in_steps means cite entries ss
    steps-cite end_steps p n = refl
    steps-cite (step q l w move.qed own ss) p n = proof-cites own q (suc n) ∙ sym (append-nil (keys_in means cite entries own))
    steps-cite (step q l w (move.assert s) own ss) p n = by-acts q w (move.assert s) own ss p n refl (proof-cites own q (suc n)) (steps-cite ss p (suc n + count own))
    steps-cite (step q l w (move.case t) own ss) p n = by-acts q w (move.case t) own ss p n refl (proof-cites own q (suc n)) (steps-cite ss p (suc n + count own))
    steps-cite (step q l w (move.suffices s) own ss) p n = by-acts q w (move.suffices s) own ss p n refl (proof-cites own q (suc n)) (steps-cite ss p (suc n + count own))
    steps-cite (step q l w (move.have t) own ss) p n = by-acts q w (move.have t) own ss p n refl (proof-cites own q (suc n)) (steps-cite ss p (suc n + count own))
    steps-cite (step q l w (move.take gs) own ss) p n = by-acts q w (move.take gs) own ss p n refl (proof-cites own q (suc n)) (steps-cite ss p (suc n + count own))
    steps-cite (step q l w (move.witness ts) own ss) p n = by-acts q w (move.witness ts) own ss p n refl (proof-cites own q (suc n)) (steps-cite ss p (suc n + count own))
    steps-cite (step q l w (move.pick gs t) own ss) p n = by-acts q w (move.pick gs t) own ss p n refl (proof-cites own q (suc n)) (steps-cite ss p (suc n + count own))
    steps-cite (step q l w (move.define ds) own ss) p n = by-acts q w (move.define ds) own ss p n refl (proof-cites own q (suc n)) (steps-cite ss p (suc n + count own))
    steps-cite (step q l w (move.add fs ds) own ss) p n = by-acts q w (move.add fs ds) own ss p n refl (proof-cites own q (suc n)) (steps-cite ss p (suc n + count own))
    steps-cite (step q l w (move.hide fs ds) own ss) p n = by-acts q w (move.hide fs ds) own ss p n refl (proof-cites own q (suc n)) (steps-cite ss p (suc n + count own))
