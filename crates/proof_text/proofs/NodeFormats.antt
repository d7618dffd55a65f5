-- The readers of nodes and tables read what is written.
use Rattle.std.proofs.Common.{◌≡◌, ℕ, suc, ◌<◌, Bool, true, false, nat_eq, nat_lt, ◌||◌, List, [], ◌∷◌, ◌++◌, length, map, take, refl, ap, ◌∙◌, arith}
use Rattle.std.specs.List.{flat_map}
use Rattle.std.proofs.lemmas.Bool.Decides.{nat_tests}
use Rattle.std.proofs.lemmas.Bool.{and_parts, and_from}
use Rattle.core_expr.specs.Heads.{kind_at, kind_table}
use Rattle.core_expr.specs.Nodes.{AreBelow, IsNode, AreNodes, node_kind, numbers_fit}
use Rattle.seq_calculus.specs.declared.lists.ProofNode.{ProofNode}
use Rattle.seq_calculus.specs.Lists.{node_of, written_node}
use Rattle.proof_text.specs.declared.shape.Tail.{Tail}
use Rattle.proof_text.specs.declared.shape.Tail.TheVariants.{Fixed, Counted, Bytes}
use Rattle.proof_text.specs.declared.parts.Operands.{Operands}
use Rattle.proof_text.specs.declared.cursor.Test.{Test}
use Rattle.proof_text.specs.Shapes.{node_shape}
use Rattle.proof_text.specs.Reading.{number, AllFrom, AreFrom}
use Rattle.proof_text.specs.Readers.{passes, has_room, index_count, operands, head_test, made_node, node, one_more, nodes, behind, table}
use Rattle.proof_text.proofs.Good.{Good, one, good-number, good-pair, good-many, good-as}
use Rattle.proof_text.proofs.Formats.{AreOperands, less, less-true, positive, parts_text, good-operands}
use Rattle.proof_text.proofs.ShapeLaws.{node-test}

-- a fixed number of indices that stand there have room
pub has-room : (t : Tail) (k : ℕ) (ns is : List ℕ) → AreBelow k is → length is ≡ index_count t ns → has_room t k ≡ true
has-room Counted k ns is b e = refl
has-room Bytes k ns is b e = refl
has-room (Fixed n) k ns is b e = go (nat_eq n 0) refl
  where
    go : (c : Bool) → nat_eq n 0 ≡ c → c || nat_lt 0 k ≡ true
    go true q = refl
    go false q = let p : 0 < n = grind (arith, nat_tests) in less-true 0 k (positive k is b (omega (arith, e)))

abbrev IsProofNode : ℕ → ProofNode → Type 0
IsProofNode k n = IsNode (node_of n) k

abbrev operands_of : ProofNode → Operands
operands_of n = record { numbers = n.numbers; indices = n.parts }

head_parts : (k h : ℕ) → head_test k h ≡ true → (nat_lt h 33 ≡ true) × (has_room (node_shape h).tail k ≡ true)
unfolding head_test
head_parts k h v = and_parts (nat_lt h 33) (has_room (node_shape h).tail k) v

head_from : (k h : ℕ) → nat_lt h 33 ≡ true → has_room (node_shape h).tail k ≡ true → head_test k h ≡ true
unfolding head_test
head_from k h v w = and_from _ _ v w

-- TRUE may stand anywhere
truth_stands : (k : ℕ) → head_test k 0 ≡ true
unfolding head_test node_shape kind_at kind_table
truth_stands k = refl

pub good-node : (k : ℕ) → Good ProofNode (IsProofNode k) written_node (node k)
unfolding node
good-node k =
    good-pair ℕ Operands ProofNode made_node (λ n. n.head) operands_of (λ h. head_test k h ≡ true) (λ h. AreOperands (node_shape h) k) (IsProofNode k) one (λ _. parts_text) written_node (number (head_test k)) (λ h. operands (node_shape h) k) (good-number (head_test k) 0 (truth_stands k)) (λ h v. good-operands (node_shape h) k (head_parts k h v).1) to from
  where
    to : (h : ℕ) (o : Operands) → head_test k h ≡ true → AreOperands (node_shape h) k o → IsProofNode k (made_node h o) × (written_node (made_node h o) ≡ one h ++ parts_text o)
    to h o v w =
        let p = head_parts k h v in
        let fit = (node-test h (length o.indices) o.numbers (less h 33 p.0)).1 (record { front = w.front; count = w.bytes.count; bytes = w.bytes.below; indices = w.indices.count }) in
        ((and_from _ _ p.0 fit, w.indices.below), refl)

    from : (n : ProofNode) → IsProofNode k n → (head_test k n.head ≡ true) × AreOperands (node_shape n.head) k (operands_of n) × (made_node n.head (operands_of n) ≡ n) × (written_node n ≡ one n.head ++ parts_text (operands_of n))
    from n f =
        let p = and_parts (nat_lt n.head 33) (numbers_fit (node_kind n.head n.numbers) n.numbers (length n.parts)) f.0 in
        let fit = (node-test n.head (length n.parts) n.numbers (less n.head 33 p.0)).0 p.1 in (
          head_from k n.head p.0 (has-room (node_shape n.head).tail k (take (node_shape n.head).numbers n.numbers) n.parts f.1 fit.indices),
          record {
            front = fit.front;
            bytes = record { count = fit.count; below = fit.bytes };
            indices = record { count = fit.indices; below = f.1 };
          },
          refl,
          refl,
        )

-- the nodes of a table, so many
pub record AreTable (c : ℕ) (ns : List ProofNode) : Type 0 where
  pub count : length ns ≡ c
  pub nodes : AreNodes 0 (map node_of ns)

all-nodes : (i : ℕ) (ns : List ProofNode) → AllFrom IsProofNode one_more i ns → AreNodes i (map node_of ns)
all-nodes i [] h = tt
all-nodes i (n ∷ ns) h = (h.0, all-nodes (suc i) ns h.1)

nodes-all : (i : ℕ) (ns : List ProofNode) → AreNodes i (map node_of ns) → AllFrom IsProofNode one_more i ns
nodes-all i [] h = tt
nodes-all i (n ∷ ns) h = (h.0, nodes-all (suc i) ns h.1)

abbrev nodes_text : List ProofNode → List ℕ
nodes_text ns = flat_map written_node ns

good-nodes : (c : ℕ) → Good (List ProofNode) (AreTable c) nodes_text (nodes c)
unfolding nodes
good-nodes c =
    good-as (List ProofNode) (AreFrom ℕ ProofNode IsProofNode one_more c 0) (AreTable c) (flat_map written_node) nodes_text (nodes c)
    (good-many ℕ ProofNode IsProofNode written_node node one_more (λ _ _. Unit {0}) (λ c s r. good-node s) (λ c s a r v. tt) c 0 tt)
    (λ ns f. (record { count = f.count; nodes = all-nodes 0 ns f.all }, refl))
    (λ ns f. (record { count = f.count; all = nodes-all 0 ns f.nodes }, refl))

-- the nodes of a table whose number passes the test
pub record IsTable (t : Test) (ns : List ProofNode) : Type 0 where
  pub count : passes t (length ns) ≡ true
  pub nodes : AreNodes 0 (map node_of ns)

abbrev pub table_text : List ProofNode → List ℕ
table_text ns = length ns ∷ flat_map written_node ns

pub good-table : (t : Test) (c : ℕ) → passes t c ≡ true → Good (List ProofNode) (IsTable t) table_text (table t)
unfolding table
good-table t c v =
    good-pair ℕ (List ProofNode) (List ProofNode) behind (λ ns. length ns) (λ ns. ns) (λ c. passes t c ≡ true) AreTable (IsTable t) one (λ _. nodes_text) table_text (number (passes t)) nodes (good-number (passes t) c v) (λ c _. good-nodes c)
    (λ c ns p w. (record { count = ap (passes t) w.count ∙ p; nodes = w.nodes }, (λ i. w.count i ∷ flat_map written_node ns)))
    (λ ns f. (f.count, record { count = refl; nodes = f.nodes }, refl, refl))
