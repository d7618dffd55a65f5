-- The flat lists of a proof: which are allowed, and how they are written.
use Rattle.std.specs.Prelude.{◌≡◌, ℕ, suc, ◌+◌, ◌<◌, Bool, cond, nat_eq, nat_lt, ◌&&◌, List, [], ◌∷◌, ◌++◌, length, take, drop, map, IsTrue}
use Rattle.std.specs.List.{flat_map}
use Rattle.std.specs.Coded.{Coded, code_by, coded×, coded_ℕ, coded_list}
use Rattle.std.proofs.Common.{get_or, refl}
use Rattle.core_expr.specs.Nodes.{Node, AreBelow, AreNodes}
use Rattle.seq_calculus.specs.declared.lists.ProofNode.{ProofNode}
use Rattle.seq_calculus.specs.declared.lists.ProofStep.{ProofStep}

-- a proof as its table of nodes and its steps
pub record Lists : Type 0 where
  pub nodes : List ProofNode
  pub steps : List ProofStep

abbrev node_code : Coded ProofNode
node_code = code_by (ℕ × (List ℕ × List ℕ)) (coded× coded_ℕ (coded× (coded_list coded_ℕ) (coded_list coded_ℕ))) (λ n. (n.head, (n.numbers, n.parts))) (λ p. record { head = p.0; numbers = p.1.0; parts = p.1.1 }) (λ _. refl)

abbrev step_code : Coded ProofStep
step_code = code_by (ℕ × (List ℕ × (List ℕ × List ℕ))) (coded× coded_ℕ (coded× (coded_list coded_ℕ) (coded× (coded_list coded_ℕ) (coded_list coded_ℕ)))) (λ s. (s.rule, (s.numbers, (s.exprs, s.premises)))) (λ p. record { rule = p.0; numbers = p.1.0; exprs = p.1.1.0; premises = p.1.1.1 }) (λ _. refl)

abbrev pub lists_code : Coded Lists
lists_code = code_by (List ProofNode × List ProofStep) (coded× (coded_list node_code) (coded_list step_code)) (λ l. (l.nodes, l.steps)) (λ p. record { nodes = p.0; steps = p.1 }) (λ _. refl)

-- how many expressions a step has, by its rule; Weak's and Schema's are as many as its numbers tell
unfoldable pub expression_counts : List ℕ
expression_counts = 1 ∷ 0 ∷ 0 ∷ 0 ∷ 1 ∷ 1 ∷ 1 ∷ 2 ∷ 2 ∷ 2 ∷ 2 ∷ 2 ∷ 2 ∷ 2 ∷ 2 ∷ 2 ∷ 1 ∷ 1 ∷ 2 ∷ 1 ∷ 3 ∷ 0 ∷ []

-- how many premises a step has, by its rule
unfoldable pub premise_counts : List ℕ
premise_counts = 0 ∷ 0 ∷ 0 ∷ 1 ∷ 2 ∷ 1 ∷ 1 ∷ 1 ∷ 2 ∷ 2 ∷ 1 ∷ 2 ∷ 1 ∷ 2 ∷ 2 ∷ 1 ∷ 1 ∷ 1 ∷ 1 ∷ 0 ∷ 1 ∷ 1 ∷ []

-- Weak (3) has the lengths of its two lists, and Schema (21) its schema, its number and how many parameters it has; no
-- other rule has numbers
unfoldable pub step_fits : ProofStep → Bool
step_fits s =
    nat_lt s.rule 22 && nat_eq (length s.premises) (get_or premise_counts s.rule 0)
    && cond (nat_eq s.rule 3) (nat_eq (length s.numbers) 2 && nat_eq (length s.exprs) (get_or s.numbers 0 0 + get_or s.numbers 1 0))
    (cond (nat_eq s.rule 21) (nat_eq (length s.numbers) 3 && nat_eq (length s.exprs) (get_or s.numbers 2 0))
    (nat_eq (length s.numbers) 0 && nat_eq (length s.exprs) (get_or expression_counts s.rule 0)))

-- a step that may stand at the place i behind a table of so many nodes
pub record IsStep (nodes i : ℕ) (s : ProofStep) : Type 0 where
  pub form : IsTrue (step_fits s)
  pub exprs : AreBelow nodes s.exprs
  pub premises : AreBelow i s.premises

-- the steps from the place i on, behind a table of so many nodes
abbrev pub AreSteps : ℕ → ℕ → List ProofStep → Type 0
AreSteps nodes i [] = Unit {0}
AreSteps nodes i (s ∷ ss) = IsStep nodes i s × AreSteps nodes (suc i) ss

-- the node of the table of heads
abbrev pub node_of : ProofNode → Node
node_of n = record { head = n.head; numbers = n.numbers; parts = n.parts }

-- the places of premises, in order
abbrev pub all_premises : List ProofStep → List ℕ
all_premises ss = flat_map (λ (s : ProofStep). s.premises) ss

-- a number that is none of these
abbrev pub IsApart : ℕ → List ℕ → Type 0
IsApart n [] = Unit {0}
IsApart n (m ∷ ms) = ¬ (n ≡ m) × IsApart n ms

-- no number stands here twice
abbrev pub AreApart : List ℕ → Type 0
AreApart [] = Unit {0}
AreApart (n ∷ ns) = IsApart n ns × AreApart ns

-- the lists of a proof: each index is below its own, no step is a premise of two places, and there is a last step
pub record AreLists (l : Lists) : Type 0 where
  pub nodes : AreNodes 0 (map node_of l.nodes)
  pub steps : AreSteps (length l.nodes) 0 l.steps
  pub once : AreApart (all_premises l.steps)
  pub some : 0 < length l.steps

-- a node as it is written: its head, its numbers and its parts
abbrev pub written_node : ProofNode → List ℕ
written_node n = n.head ∷ (n.numbers ++ n.parts)

-- the numbers and expressions of a step as they are written: Weak writes the length of each list before it
abbrev pub written_operands : ProofStep → List ℕ
written_operands s =
    cond (nat_eq s.rule 3)
    (get_or s.numbers 0 0 ∷ (take (get_or s.numbers 0 0) s.exprs ++ get_or s.numbers 1 0 ∷ drop (get_or s.numbers 0 0) s.exprs))
    (s.numbers ++ s.exprs)

-- a step as it is written: its rule, its numbers and expressions, and its premises
abbrev pub written_step : ProofStep → List ℕ
written_step s = s.rule ∷ (written_operands s ++ s.premises)

-- a proof as it is written: a count and the nodes, a count and the steps
unfoldable pub written : Lists → List ℕ
written l = length l.nodes ∷ (flat_map written_node l.nodes ++ length l.steps ∷ flat_map written_step l.steps)
