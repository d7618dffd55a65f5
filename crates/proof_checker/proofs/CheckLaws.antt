-- The facts, the table and the goal.
use Rattle.std.proofs.Common.{◌≡◌, ℕ, zero, suc, ◌+◌, ◌-◌, ◌<◌, ◌≤◌, Bool, IsTrue, ◌↔◌, List, [], ◌∷◌, ◌++◌, length, get_or, map, drop, refl, ap, sym, ◌∙◌, arith, subst}
use Rattle.std.proofs.lemmas.List.{drop_more, drop_all, length-map}
use Rattle.core_expr.specs.Tree.{Tree}
use Rattle.core_expr.specs.Heads.{IsCanonical}
use Rattle.core_expr.specs.Put.{IsScoped}
use Rattle.core_expr.specs.Nodes.{AreBelow, picked, trees_of}
use Rattle.seq_calculus.specs.Calculus.{AllClosed, Correct}
use Rattle.seq_calculus.specs.Lists.{Lists, node_of}
use Rattle.seq_calculus.specs.declared.lists.ProofNode.{ProofNode}
use Rattle.seq_calculus.specs.Steps.{no_proof, proofs_of, proof_of}
use Rattle.term_bank.specs.Banks.{Extends, HasTree, tree_at}
use Rattle.term_bank.proofs.TableLaws.{length-picked, length-trees_of, AreBelow-more}
use Rattle.term_bank.proofs.InstLaws.{Extends-trans}
use Rattle.proof_checker.specs.Sides.{side, seen, AreFormulas}
use Rattle.proof_checker.specs.Runs.{AreCanonical, AreFacts}
use Rattle.proof_checker.specs.Tables.{ArePlaced}
use Rattle.proof_checker.specs.declared.side.Side.{Side}
use Rattle.proof_checker.proofs.SideLaws.{side_from-push, side-extend, AreFormulas-extend, AreFormulas-append, longer}
use Rattle.proof_checker.proofs.NodeLaws.{picked-same}

pub canonical_at : (es : List Tree) (i : ℕ) (e : Tree) → AreCanonical es → i < length es → e ≡ get_or es i e → IsCanonical e
canonical_at [] i e a l q = absurd (omega arith)
canonical_at (x ∷ es) zero e a l q = subst (λ t. IsCanonical t) (sym q) a.0
canonical_at (x ∷ es) (suc i) e a l q = canonical_at es i e a.1 (omega arith) q

closed_at : (es : List Tree) (i : ℕ) (e : Tree) → AllClosed es → i < length es → e ≡ get_or es i e → IsScoped 0 e
closed_at [] i e a l q = absurd (omega arith)
closed_at (x ∷ es) zero e a l q = subst (λ t. IsScoped 0 t) (sym q) a.0
closed_at (x ∷ es) (suc i) e a l q = closed_at es i e a.1 (omega arith) q

-- the last i of the facts stand on the side
pub record HasLast (ts : List Tree) (s : Side) (facts : List Tree) (i : ℕ) : Type 0 where
  pub formulas : AreFormulas ts s.trail
  pub base : s.base ≡ 0
  pub trees : side ts s.trail ≡ drop (length facts - i) facts

pub facts_begin : (ts : List Tree) (s : Side) (facts : List Tree) → s ≡ record { trail = []; base = 0 } → HasLast ts s facts 0
facts_begin ts s facts e =
    subst (λ (s : Side). HasLast ts s facts 0) (sym e)
    (record { formulas = tt; base = refl; trees = sym (drop_all (length facts - 0) facts (omega arith)) })

pub facts_step : (ts ts' : List Tree) (s s' : Side) (facts : List Tree) (i k : ℕ) (e : Tree) → Extends ts ts' → AllClosed facts → i < length facts → e ≡ get_or facts (length facts - 1 - i) e → HasTree ts' k e → s'.base ≡ s.base → s'.trail ≡ s.trail ++ k ∷ [] → HasLast ts s facts i → HasLast ts' s' facts (i + 1)
facts_step ts ts' s s' facts i k e x c l q h b p a =
    let j : ℕ = length facts - 1 - i in
    let m : j < length facts = omega arith in
    let n : j + 1 ≡ length facts - i = omega arith in
    let o : j ≡ length facts - (i + 1) = omega arith in
    record {
      formulas = subst (AreFormulas ts') (sym p) (AreFormulas-append ts' s.trail (k ∷ []) (AreFormulas-extend ts ts' s.trail x a.formulas) ((h.within, subst (λ t. IsScoped 0 t) (sym h.tree) (closed_at facts j e c m q)), tt));
      base = b ∙ a.base;
      trees =
          ap (side ts') p ∙ side_from-push ts' [] s.trail k
          ∙ (λ z. (h.tree ∙ q) z ∷ (side-extend ts ts' s.trail x a.formulas ∙ a.trees ∙ ap (λ d. drop d facts) (sym n)) z)
          ∙ sym (drop_more facts j e m) ∙ ap (λ d. drop d facts) o;
    }

pub facts_end : (ts : List Tree) (s : Side) (facts : List Tree) (i : ℕ) → length facts ≤ i → HasLast ts s facts i → AreFacts ts s facts
facts_end ts s facts i l a = record {
  formulas = a.formulas;
  base = a.base;
  trees = a.trees ∙ (let z : length facts - i ≡ 0 = omega arith in ap (λ d. drop d facts) z);
}

pub table_length : (ts : List Tree) (l : Lists) (places : List ℕ) → ArePlaced ts (trees_of (map node_of l.nodes)) places → length l.nodes ≡ length places
table_length ts l places a = sym (sym (length-picked ts places) ∙ ap length a.trees ∙ length-trees_of (map node_of l.nodes) ∙ length-map l.nodes node_of)

-- what the run says of the bank's numbers is said of the proof and the canonical form
pub checked : (ts1 ts2 ts3 : List Tree) (l : Lists) (places : List ℕ) (s : Side) (facts : List Tree) (goal : ℕ) (e : Tree) (b : Bool) → ArePlaced ts1 (trees_of (map node_of l.nodes)) places → Extends ts1 ts2 → Extends ts2 ts3 → AreFacts ts2 s facts → HasTree ts3 goal e → (IsTrue b ↔ Correct (get_or (proofs_of (picked ts3 places) l.steps) (length l.steps - 1) no_proof) (seen ts3 s) (tree_at ts3 goal ∷ [])) → (IsTrue b ↔ Correct (proof_of l) facts (e ∷ []))
unfolding proof_of
checked ts1 ts2 ts3 l places s facts goal e b a x y f h w =
    let t : picked ts3 places ≡ trees_of (map node_of l.nodes) = picked-same ts1 ts3 places (Extends-trans ts1 ts2 ts3 x y) a.below ∙ a.trees in
    let g : seen ts3 s ≡ facts = ap (λ d. side ts3 (drop d s.trail)) f.base ∙ side-extend ts2 ts3 s.trail y f.formulas ∙ f.trees in
    coe 0 1 (i. IsTrue b ↔ Correct (get_or (proofs_of (t i) l.steps) (length l.steps - 1) no_proof) (g i) (h.tree i ∷ [])) w

pub places_later : (ts ts' : List Tree) (table : List Tree) (places : List ℕ) → Extends ts ts' → ArePlaced ts table places → AreBelow (length ts') places
places_later ts ts' table places x a = AreBelow-more (length ts) (length ts') places (longer ts ts' x) a.below

pub table_in : (ts : List Tree) (l : Lists) (nodes : List ProofNode) (places : List ℕ) → nodes ≡ l.nodes → ArePlaced ts (trees_of (map node_of nodes)) places → ArePlaced ts (trees_of (map node_of l.nodes)) places
table_in ts l nodes places e a = subst (λ (ns : List ProofNode). ArePlaced ts (trees_of (map node_of ns)) places) e a
