-- The steps of a proof's tree have rules, expressions and premises that lists may have.
use Rattle.std.proofs.Common.{◌≡◌, ℕ, zero, suc, ◌<◌, Bool, nat_eq, nat_lt, ◌&&◌, List, [], ◌∷◌, length, get_or, refl, ap, sym, ◌∙◌, subst, arith}
use Rattle.std.specs.Prelude.{IsTrue}
use Rattle.std.proofs.lemmas.Bool.{and_from}
use Rattle.core_expr.specs.Tree.{Tree}
use Rattle.core_expr.specs.Heads.{are_well_formed, are_canonical, parts_of}
use Rattle.core_expr.specs.Nodes.{AreBelow, picked}
use Rattle.core_expr.specs.Laws.{NodeIsCanonical}
use Rattle.seq_calculus.specs.declared.lists.ProofNode.{ProofNode}
use Rattle.seq_calculus.specs.Calculus.{Rule, Proof, Proofs}
use Rattle.seq_calculus.specs.Calculus.Proof.{step}
use Rattle.seq_calculus.specs.Calculus.Proofs.{no_more, more}
use Rattle.seq_calculus.specs.Lists.{Lists, AreLists, step_fits, premise_counts}
use Rattle.seq_calculus.specs.Steps.{rule_of, proofs_at, proofs_of, table_of}
use Rattle.proof_text.specs.Frames.{no_node, parts_at}
use Rattle.proof_text.specs.Texts.{trees_in, tree_in}
use Rattle.proof_text.proofs.TableTrees.{length-picked}
use Rattle.text_writer.specs.Proofs.{Kept, kept}
use Rattle.text_writer.specs.Tasks.{step_at, proof_at}
use Rattle.text_writer.proofs.TreeLaws.{IsTable, IsRight, AreRight}
use Rattle.text_writer.proofs.SharedLaws.{parts_in, node-made, node-fits, node-before}
use Rattle.text_writer.proofs.RuleLaws.{counts_fit, kept-step}
use Rattle.text_writer.proofs.StepLaws.{step-is, proof-is}

-- ---- the trees of a table

right-parts : (ts : List Tree) → AreRight ts → IsTrue (are_well_formed (parts_of ts)) × IsTrue (are_canonical (parts_of ts))
right-parts [] h = (refl, refl)
right-parts (t ∷ ts) h = let p = right-parts ts h.1 in (and_from _ _ h.0.0 p.0, and_from _ _ h.0.1 p.1)

pub right-picked : (ns : List ProofNode) (k : ℕ) (is : List ℕ) → AreBelow k is → ((j : ℕ) → j < k → IsRight (tree_in ns j)) → AreRight (picked (trees_in ns) is)
right-picked ns k [] b h = tt
right-picked ns k (i ∷ is) b h = (h i b.0, right-picked ns k is b.1 h)

module _ (law : NodeIsCanonical) (ns : List ProofNode) (h : IsTable ns) where
  right-below : (n i : ℕ) → i < n → i < length ns → IsRight (tree_in ns i)
  right-below zero i k l = absurd (omega arith)
  right-below (suc n) i k l =
      let m = get_or ns i no_node in
      let p = right-parts (parts_in ns i) (right-picked ns i (parts_at ns i) (node-before ns h i l) (λ j q. right-below n j (omega arith) (omega arith))) in
      subst IsRight (sym (node-made ns h i l)) (law m.head m.numbers (parts_in ns i) (node-fits ns h i l) p.0 p.1)

  pub right-at : (i : ℕ) → i < length ns → IsRight (tree_in ns i)
  right-at i l = right-below (suc i) i (omega arith) l

-- ---- the steps of a tree

abbrev pub proof_count : Proofs → ℕ
proof_count no_more = 0
proof_count (more p ps) = suc (proof_count ps)

-- a rule that is kept like this may stand in lists, over so many premises
pub record IsFitStep (r : Rule) (w : Kept) (k : ℕ) : Type 0 where
  pub form : (xs qs : List ℕ) → length xs ≡ length w.exprs → length qs ≡ k → IsTrue (step_fits (record { rule = w.rule; numbers = w.numbers; exprs = xs; premises = qs }))
  pub exprs : AreRight w.exprs
  pub back : rule_of w.rule w.numbers w.exprs ≡ r

abbrev mutual
  pub IsFit : Proof → Type 0
  IsFit (step r ps) = IsFitStep r (kept r) (proof_count ps) × AreFit ps

  pub AreFit : Proofs → Type 0
  AreFit no_more = Unit {0}
  AreFit (more p ps) = IsFit p × AreFit ps

abbrev form : ℕ → List ℕ → ℕ → ℕ → Bool
form r ns a b = nat_lt r 22 && nat_eq b (get_or premise_counts r 0) && counts_fit r ns a

-- a step's form is a matter of how many expressions and premises it has
same-form : (r : ℕ) (ns xs ys qs ps : List ℕ) → length xs ≡ length ys → length qs ≡ length ps
    → step_fits (record { rule = r; numbers = ns; exprs = xs; premises = qs }) ≡ step_fits (record { rule = r; numbers = ns; exprs = ys; premises = ps })
unfolding step_fits
same-form r ns xs ys qs ps e f = λ i. form r ns (e i) (f i)

proofs-count : (qs : List Proof) (is : List ℕ) → proof_count (proofs_at qs is) ≡ length is
proofs-count qs [] = refl
proofs-count qs (i ∷ is) = ap suc (proofs-count qs is)

module _ (law : NodeIsCanonical) (l : Lists) (h : AreLists l) where
  fit-step : (i : ℕ) → i < length l.steps → (let s = step_at l i in let es = picked (table_of l) s.exprs in let r = rule_of s.rule s.numbers es in IsFitStep r (kept r) (length s.premises))
  fit-step i k =
      let s = step_at l i in
      let es = picked (table_of l) s.exprs in
      let r = rule_of s.rule s.numbers es in
      let f = step-is l h i k in
      let n = length-picked (table_of l) s.exprs in
      subst (λ w. IsFitStep r w (length s.premises)) (sym (kept-step s es f.form n)) (record {
        form = λ xs qs e q. subst IsTrue (same-form s.rule s.numbers s.exprs xs s.premises qs (sym (e ∙ n)) (sym q)) f.form;
        exprs = right-picked l.nodes (length l.nodes) s.exprs f.exprs (right-at law l.nodes h.nodes);
        back = refl;
      })

  fit-all : (k : ℕ) (is : List ℕ) → AreBelow k is → ((j : ℕ) → j < k → IsFit (proof_at l j)) → AreFit (proofs_at (proofs_of (table_of l) l.steps) is)
  fit-all k [] b f = tt
  fit-all k (i ∷ is) b f = (f i b.0, fit-all k is b.1 f)

  fit-below : (n i : ℕ) → i < n → i < length l.steps → IsFit (proof_at l i)
  fit-below zero i m k = absurd (omega arith)
  fit-below (suc n) i m k =
      let s = step_at l i in
      let r = rule_of s.rule s.numbers (picked (table_of l) s.exprs) in
      let c = proofs-count (proofs_of (table_of l) l.steps) s.premises in
      subst IsFit (sym (proof-is l h i k))
      (subst (IsFitStep r (kept r)) (sym c) (fit-step i k), fit-all i s.premises (step-is l h i k).premises (λ j q. fit-below n j (omega arith) (omega arith)))

  pub fit-at : (i : ℕ) → i < length l.steps → IsFit (proof_at l i)
  fit-at i k = fit-below (suc i) i (omega arith) k
