-- The readers of nodes, steps, obligations and proofs.
use Rattle.std.specs.Prelude.{ℕ, suc, ◌-◌, Bool, true, false, cond, nat_eq, nat_lt, nat_le, ◌&&◌, ◌||◌, List, [], ◌∷◌, ◌++◌, length, slice_set}
use Rattle.std.proofs.Common.{get_or}
use Rattle.seq_calculus.specs.declared.lists.ProofNode.{ProofNode}
use Rattle.seq_calculus.specs.declared.lists.ProofStep.{ProofStep}
use Rattle.seq_calculus.specs.Lists.{Lists}
use Rattle.proof_text.specs.declared.shape.Tail.{Tail}
use Rattle.proof_text.specs.declared.shape.Tail.TheVariants.{Fixed, Counted, Bytes}
use Rattle.proof_text.specs.declared.shape.Shape.{Shape}
use Rattle.proof_text.specs.declared.parts.Operands.{Operands}
use Rattle.proof_text.specs.declared.cursor.Test.{Test}
use Rattle.proof_text.specs.declared.cursor.Test.TheVariants.{Any, Positive, Below}
use Rattle.proof_text.specs.Shapes.{node_shape, step_shape, premise_count}
use Rattle.proof_text.specs.Texts.{Obligation}
use Rattle.proof_text.specs.Reading.{Reader, number, pair, many}

-- the tests of single numbers
abbrev pub passes : Test → ℕ → Bool
passes Any x = true
passes Positive x = nat_lt 0 x
passes (Below k) x = nat_lt x k

-- ---- numbers and indices

abbrev pub keep : {S A : Type 0} → S → A → S
keep s a = s

-- so many numbers, each below k
unfoldable pub below : ℕ → ℕ → Reader (List ℕ)
below c k = many (λ k. number (passes (Below k))) keep c k

-- a fixed number of parts, but 0, needs a table to take them from
abbrev pub has_room : Tail → ℕ → Bool
has_room (Fixed n) k = nat_eq n 0 || nat_lt 0 k
has_room Counted k = true
has_room Bytes k = true

-- a number that tells how many parts follow is 0 behind an empty table
abbrev pub count_test : ℕ → Test
count_test k = cond (nat_lt 0 k) Any (Below 1)

-- the test of the number with which so many are left
abbrev pub number_test : Tail → ℕ → ℕ → Test
number_test Counted k left = cond (nat_eq left 1) (count_test k) Any
number_test t k left = Any

abbrev pub fewer : ℕ → ℕ → ℕ
fewer left x = left - 1

-- the numbers of a node or a step behind a table of k nodes
unfoldable pub numbers : Tail → ℕ → ℕ → Reader (List ℕ)
numbers t k c = many (λ left. number (passes (number_test t k left))) fewer c c

-- the last of these
abbrev pub last_of : List ℕ → ℕ
last_of ns = get_or ns (length ns - 1) 0

abbrev pub byte_count : Tail → List ℕ → ℕ
byte_count Bytes ns = last_of ns
byte_count t ns = 0

abbrev pub index_count : Tail → List ℕ → ℕ
index_count (Fixed n) ns = n
index_count Counted ns = last_of ns
index_count Bytes ns = 0

-- bytes behind numbers, and indices
abbrev pub with_bytes : List ℕ → Operands → Operands
with_bytes ns o = record { numbers = ns ++ o.numbers; indices = o.indices }

abbrev pub made_operands : List ℕ → List ℕ → Operands
made_operands ns is = record { numbers = ns; indices = is }

-- bytes and indices
unfoldable pub tail_operands : ℕ → ℕ → ℕ → Reader Operands
tail_operands bytes count k = pair made_operands (below bytes 256) (λ _. below count k)

-- the numbers and indices of this shape behind a table of k nodes
unfoldable pub operands : Shape → ℕ → Reader Operands
operands s k = pair with_bytes (numbers s.tail k s.numbers) (λ ns. tail_operands (byte_count s.tail ns) (index_count s.tail ns) k)

abbrev pub behind_count : ℕ → List ℕ → List ℕ
behind_count c is = is

-- indices behind their number
unfoldable pub counted : ℕ → Reader (List ℕ)
counted k = pair behind_count (number (passes (count_test k))) (λ c. below c k)

abbrev pub made_weak : List ℕ → List ℕ → Operands
made_weak ls rs = record { numbers = length ls ∷ length rs ∷ []; indices = ls ++ rs }

-- the operands of weakening: the length of each list stands before it
unfoldable pub weak_operands : ℕ → Reader Operands
weak_operands k = pair made_weak (counted k) (λ _. counted k)

-- ---- nodes

-- a head number for which there is room behind a table of k nodes
unfoldable pub head_test : ℕ → ℕ → Bool
head_test k h = nat_lt h 33 && has_room (node_shape h).tail k

abbrev pub made_node : ℕ → Operands → ProofNode
made_node h o = record { head = h; numbers = o.numbers; parts = o.indices }

unfoldable pub node : ℕ → Reader ProofNode
node k = pair made_node (number (head_test k)) (λ h. operands (node_shape h) k)

abbrev pub one_more : ℕ → ProofNode → ℕ
one_more k n = suc k

unfoldable pub nodes : ℕ → Reader (List ProofNode)
nodes c = many node one_more c 0

abbrev pub behind : {A : Type 0} → ℕ → List A → List A
behind c items = items

-- a table behind the number of its nodes
unfoldable pub table : Test → Reader (List ProofNode)
table t = pair behind (number (passes t)) nodes

-- ---- steps

-- how many of these are free
abbrev pub free_count : List Bool → ℕ
free_count [] = 0
free_count (true ∷ free) = suc (free_count free)
free_count (false ∷ free) = free_count free

abbrev pub is_free : List Bool → ℕ → Bool
is_free free x = get_or free x false

abbrev pub without : List Bool → ℕ → List Bool
without free x = slice_set free x false

-- so many steps that are free, each once
unfoldable pub premises : ℕ → List Bool → Reader (List ℕ)
premises c free = many (λ free. number (is_free free)) without c free

-- a rule for which there is room behind a table of n nodes, with these steps free
unfoldable pub rule_test : ℕ → List Bool → ℕ → Bool
rule_test n free r = nat_lt r 22 && (has_room (step_shape r).tail n && nat_le (premise_count r) (free_count free))

abbrev pub operands_by : Bool → ℕ → ℕ → Reader Operands
operands_by true r n = weak_operands n
operands_by false r n = operands (step_shape r) n

-- the operands of a step with the rule r
abbrev pub step_operands : ℕ → ℕ → Reader Operands
step_operands r n = operands_by (nat_eq r 3) r n

abbrev pub with_premises : ℕ → Operands → List ℕ → ProofStep
with_premises r o ps = record { rule = r; numbers = o.numbers; exprs = o.indices; premises = ps }

abbrev pub same_step : ℕ → ProofStep → ProofStep
same_step r s = s

-- what follows the rule r of a step
unfoldable pub step_behind : ℕ → List Bool → ℕ → Reader ProofStep
step_behind n free r = pair (with_premises r) (step_operands r n) (λ _. premises (premise_count r) free)

unfoldable pub step : ℕ → List Bool → Reader ProofStep
step n free = pair same_step (number (rule_test n free)) (step_behind n free)

-- the free steps but these
abbrev pub without_all : List Bool → List ℕ → List Bool
without_all free [] = free
without_all free (p ∷ ps) = without_all (without free p) ps

-- a step is free for those behind it
abbrev pub next_free : List Bool → ProofStep → List Bool
next_free free s = without_all free s.premises ++ true ∷ []

unfoldable pub steps : ℕ → ℕ → Reader (List ProofStep)
steps n c = many (step n) next_free c []

-- steps behind their number, of which there is at least one
unfoldable pub counted_steps : ℕ → Reader (List ProofStep)
counted_steps n = pair behind (number (passes Positive)) (steps n)

-- ---- wholes

abbrev pub made_lists : List ProofNode → List ProofStep → Lists
made_lists ns ss = record { nodes = ns; steps = ss }

-- a proof
unfoldable pub proof : Reader Lists
proof = pair made_lists (table Any) (λ ns. counted_steps (length ns))

-- the facts and the goal of an obligation behind its table
unfoldable pub formulas : List ProofNode → Reader Obligation
formulas ns =
    pair (λ fs g. record { nodes = ns; facts = fs; goal = g }) (counted (length ns)) (λ _. number (passes (Below (length ns))))

abbrev pub same_obligation : List ProofNode → Obligation → Obligation
same_obligation ns o = o

-- an obligation
unfoldable pub obligation : Reader Obligation
obligation = pair same_obligation (table Positive) formulas
