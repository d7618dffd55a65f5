-- The table of a bank.
use Rattle.std.specs.Prelude.{◌≡◌, ℕ, suc, ◌+◌, ◌<◌, ◌≤◌, List, [], ◌∷◌, ◌++◌, length, map, take}
use Rattle.std.proofs.Common.{get_or, refl, ap, sym, ◌∙◌, subst, arith, length-append}
use Rattle.std.proofs.lemmas.List.{get_or-take, take_more, take_all}
use Rattle.core_expr.specs.Tree.{Tree, true_}
use Rattle.core_expr.specs.Nodes.{Node, IsNode, AreNodes, AreBelow, picked, tree_over, trees_of, trees_from, node_make}
use Rattle.seq_calculus.specs.declared.lists.ProofNode.{ProofNode}
use Rattle.seq_calculus.specs.declared.lists.ProofStep.{ProofStep}
use Rattle.seq_calculus.specs.Calculus.{Proof}
use Rattle.seq_calculus.specs.Calculus.Proof.{step}
use Rattle.seq_calculus.specs.Lists.{node_of, AreSteps}
use Rattle.seq_calculus.specs.Steps.{rule_of, proofs_of, proofs_from, proofs_at, proof_in}
use Rattle.term_bank.specs.Banks.{Extends}
use Rattle.term_shapes.proofs.Extending.{longer, picked-same}
use Rattle.proof_writer.specs.Written.{Written, IsWritten, backwards, seen_of, opens, proofs_on}

trees_from-more : (ts : List Tree) (ns : List Node) (n : Node) → trees_from ts (ns ++ n ∷ []) ≡ trees_from ts ns ++ tree_over (trees_from ts ns) n ∷ []
trees_from-more ts [] n = refl
trees_from-more ts (m ∷ ns) n = trees_from-more (ts ++ tree_over ts m ∷ []) ns n

trees_from-length : (ts : List Tree) (ns : List Node) (k : ℕ) → k ≡ length ts + length ns → length (trees_from ts ns) ≡ k
trees_from-length ts [] k e = omega arith
trees_from-length ts (n ∷ ns) k e = trees_from-length (ts ++ tree_over ts n ∷ []) ns k (omega (arith, length-append ts (tree_over ts n ∷ [])))

map-more : (ns : List ProofNode) (n : ProofNode) → map node_of (ns ++ n ∷ []) ≡ map node_of ns ++ node_of n ∷ []
map-more [] n = refl
map-more (m ∷ ns) n = ap (λ l. node_of m ∷ l) (map-more ns n)

map-length : (ns : List ProofNode) → length (map node_of ns) ≡ length ns
map-length [] = refl
map-length (n ∷ ns) = ap suc (map-length ns)

-- as many nodes as trees
pub table_length : (ns : List ProofNode) (ts : List Tree) → trees_of (map node_of ns) ≡ ts → length ns ≡ length ts
table_length ns ts e = sym (trees_from-length [] (map node_of ns) (length ns) (omega (arith, map-length ns))) ∙ ap length e

AreNodes-more : (i k : ℕ) (ns : List Node) (n : Node) → k ≡ i + length ns → AreNodes i ns → IsNode n k → AreNodes i (ns ++ n ∷ [])
AreNodes-more i k [] n e h w = (subst (IsNode n) (let z : k ≡ i = omega arith in z) w, tt)
AreNodes-more i k (m ∷ ns) n e h w = (h.0, AreNodes-more (suc i) k ns n (omega arith) h.1 w)

picked-take : (ts : List Tree) (i : ℕ) (is : List ℕ) → AreBelow i is → picked (take i ts) is ≡ picked ts is
picked-take ts i [] h = refl
picked-take ts i (k ∷ is) h = λ j. get_or-take i ts k true_ h.0 j ∷ picked-take ts i is h.1 j

-- the nodes that were gone through have the first trees
pub record IsTable (ns : List ProofNode) (ts : List Tree) (i : ℕ) : Type 0 where
  pub count : length ns ≡ i
  pub nodes : AreNodes 0 (map node_of ns)
  pub trees : trees_of (map node_of ns) ≡ take i ts

pub IsTable-none : (ts : List Tree) → IsTable [] ts 0
IsTable-none ts = record { count = refl; nodes = tt; trees = refl }

pub IsTable-more : (ns : List ProofNode) (n : ProofNode) (ts : List Tree) (i : ℕ) → IsTable ns ts i → i < length ts → IsNode (node_of n) i → get_or ts i true_ ≡ tree_over ts (node_of n) → IsTable (ns ++ n ∷ []) ts (i + 1)
IsTable-more ns n ts i h l k e = record {
  count = length-append ns (n ∷ []) ∙ (let z : length ns + 1 ≡ i + 1 = omega (arith, h.count) in z);
  nodes = subst (AreNodes 0) (sym (map-more ns n)) (AreNodes-more 0 i (map node_of ns) (node_of n) (omega (arith, map-length ns, h.count)) h.nodes k);
  trees =
      ap trees_of (map-more ns n) ∙ trees_from-more [] (map node_of ns) (node_of n) ∙ (λ j. h.trees j ++ tree_over (h.trees j) (node_of n) ∷ [])
      ∙ ap (λ (us : List Tree). take i ts ++ node_make n.head n.numbers us ∷ []) (picked-take ts i n.parts k.1) ∙ ap (λ t. take i ts ++ t ∷ []) (sym e) ∙ sym (take_more ts i true_ l);
}

pub IsTable-all : (ns : List ProofNode) (ts : List Tree) (i : ℕ) → i ≡ length ts → IsTable ns ts i → AreNodes 0 (map node_of ns) × (trees_of (map node_of ns) ≡ ts)
IsTable-all ns ts i e h = (h.nodes, h.trees ∙ take_all i ts (omega arith))

AreBelow-wider : (n m : ℕ) (is : List ℕ) → n ≤ m → AreBelow n is → AreBelow m is
AreBelow-wider n m [] e h = tt
AreBelow-wider n m (i ∷ is) e h = (omega (arith, h.0), AreBelow-wider n m is e h.1)

AreSteps-wider : (n m i : ℕ) (ss : List ProofStep) → n ≤ m → AreSteps n i ss → AreSteps m i ss
AreSteps-wider n m i [] e h = tt
AreSteps-wider n m i (s ∷ ss) e h = (record { form = h.0.form; exprs = AreBelow-wider n m s.exprs e h.0.exprs; premises = h.0.premises }, AreSteps-wider n m (suc i) ss e h.1)

proofs_from-wider : (ts us : List Tree) (i : ℕ) (ps : List Proof) (ss : List ProofStep) → Extends ts us → AreSteps (length ts) i ss → proofs_from us ps ss ≡ proofs_from ts ps ss
proofs_from-wider ts us i ps [] x h = refl
proofs_from-wider ts us i ps (s ∷ ss) x h =
    ap (λ (es : List Tree). proofs_from us (ps ++ step (rule_of s.rule s.numbers es) (proofs_at ps s.premises) ∷ []) ss) (picked-same ts us s.exprs x h.0.exprs)
    ∙ proofs_from-wider ts us (suc i) (ps ++ proof_in ts ps s ∷ []) ss x h.1

-- more expressions leave what is written
pub grown_held : (ts us : List Tree) (ss : List ProofStep) (os : List ℕ) → Extends ts us → IsWritten (seen_of ts ss os) → IsWritten (seen_of us ss os)
grown_held ts us ss os x h = record { steps = AreSteps-wider (length ts) (length us) 0 ss (longer ts us x) h.steps; unused = h.unused; once = h.once }

pub grown_opens : (v : Written) (ts us : List Tree) (ss : List ProofStep) (os : List ℕ) → seen_of ts ss os ≡ v → Extends ts us → IsWritten (seen_of ts ss os) → opens (seen_of us ss os) ≡ opens v
unfolding opens
grown_opens v ts us ss os e x h = ap (λ (ps : List Proof). proofs_on ps (backwards [] os)) (proofs_from-wider ts us 0 [] ss x h.steps) ∙ ap (λ (w : Written). proofs_on (proofs_of w.trees w.steps) w.unused) e
