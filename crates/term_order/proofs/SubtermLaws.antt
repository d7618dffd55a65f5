-- Closed subterms and sizes, by the parts of a node.
use Rattle.std.proofs.Common.{◌≡◌, ℕ, suc, ◌+◌, ◌<◌, nat_lt, Bool, true, false, List, [], ◌∷◌, ◌++◌, length, refl, ap, sym, ◌∙◌, arith, append-nil, append_assoc}
use Rattle.std.proofs.lemmas.Bool.Decides.{nat_tests}
use Rattle.core_expr.specs.declared.row.RowKind.{RowKind}
use Rattle.core_expr.specs.declared.row.RowKind.TheVariants.{Bound, Symbol, Plain, Binding}
use Rattle.core_expr.specs.Tree.{Tree, Parts}
use Rattle.core_expr.specs.Tree.Tree.{bound, app, node, bind}
use Rattle.core_expr.specs.Tree.Parts.{end, part}
use Rattle.core_expr.specs.Terms.{is_scoped, nodes, nodes_of}
use Rattle.core_expr.specs.Heads.{make_kind, parts_of, front, back, first}
use Rattle.search_definition.specs.Terms.{if_so, where_closed, subterms_before, parts_before, closed_subterms}
use Rattle.term_walks.proofs.TreeLaws.{HasShape}

-- the closed subterms of these, one after another
abbrev pub subterms_all : List Tree → List Tree
subterms_all [] = []
subterms_all (t ∷ ts) = closed_subterms t ++ subterms_all ts

closed-append : (b : Bool) (e : Tree) (xs ys : List Tree) → if_so b (e ∷ xs) xs ++ ys ≡ if_so b (e ∷ (xs ++ ys)) (xs ++ ys)
closed-append true e xs ys = refl
closed-append false e xs ys = refl

mutual
  before-append : (e : Tree) (rest : List Tree) → subterms_before e rest ≡ closed_subterms e ++ rest
  before-append (bound i) rest = refl
  before-append (app f ps) rest =
      ap (where_closed (app f ps)) (parts-append ps rest) ∙ sym (closed-append (is_scoped 0 (app f ps)) (app f ps) (parts_before ps []) rest)
  before-append (node h ns ps) rest =
      ap (where_closed (node h ns ps)) (parts-append ps rest) ∙ sym (closed-append (is_scoped 0 (node h ns ps)) (node h ns ps) (parts_before ps []) rest)
  before-append (bind b ps e) rest =
      ap (where_closed (bind b ps e)) (ap (parts_before ps) (before-append e rest) ∙ parts-append ps (closed_subterms e ++ rest) ∙ sym (append_assoc (parts_before ps []) (closed_subterms e) rest) ∙ ap (λ xs. xs ++ rest) (sym (parts-append ps (closed_subterms e))))
      ∙ sym (closed-append (is_scoped 0 (bind b ps e)) (bind b ps e) (parts_before ps (closed_subterms e)) rest)

  parts-append : (ps : Parts) (rest : List Tree) → parts_before ps rest ≡ parts_before ps [] ++ rest
  parts-append end rest = refl
  parts-append (part e ps) rest =
      before-append e (parts_before ps rest) ∙ ap (λ xs. closed_subterms e ++ xs) (parts-append ps rest) ∙ sym (append_assoc (closed_subterms e) (parts_before ps []) rest)
      ∙ ap (λ xs. xs ++ rest) (sym (before-append e (parts_before ps [])))

parts-all : (ts : List Tree) → parts_before (parts_of ts) [] ≡ subterms_all ts
parts-all [] = refl
parts-all (t ∷ ts) = before-append t (parts_before (parts_of ts) []) ∙ ap (λ xs. closed_subterms t ++ xs) (parts-all ts)

all-split : (ts : List Tree) → 0 < length ts → subterms_all ts ≡ subterms_all (front ts) ++ closed_subterms (back ts)
all-split [] h = absurd (omega arith)
all-split (t ∷ []) h = append-nil (closed_subterms t)
all-split (t ∷ u ∷ ts) h =
    ap (λ xs. closed_subterms t ++ xs) (all-split (u ∷ ts) (omega arith)) ∙ sym (append_assoc (closed_subterms t) (subterms_all (front (u ∷ ts))) (closed_subterms (back (u ∷ ts))))

-- the closed subterms of a node: itself, where it is closed, and those of its parts
pub subterms-made : (k : RowKind) (ns : List ℕ) (ts : List Tree) → HasShape k (length ts) → closed_subterms (make_kind k ns ts) ≡ where_closed (make_kind k ns ts) (subterms_all ts)
subterms-made Bound ns [] h =
    sym (ap (λ b. if_so b (bound (first ns) ∷ []) []) (let z : nat_lt (first ns) 0 ≡ false = grind (arith, nat_tests) in z))
subterms-made Bound ns (t ∷ ts) h = absurd (omega arith)
subterms-made (Symbol f) ns ts h = ap (where_closed (app f (parts_of ts))) (parts-all ts)
subterms-made (Plain g) ns ts h = ap (where_closed (make_kind (Plain g) ns ts)) (parts-all ts)
subterms-made (Binding b) ns ts h =
    ap (where_closed (make_kind (Binding b) ns ts)) (parts-append (parts_of (front ts)) (closed_subterms (back ts)) ∙ ap (λ xs. xs ++ closed_subterms (back ts)) (parts-all (front ts)) ∙ sym (all-split ts h))

-- the nodes of these together
abbrev pub nodes_all : List Tree → ℕ
nodes_all [] = 0
nodes_all (t ∷ ts) = nodes t + nodes_all ts

nodes-parts : (ts : List Tree) → nodes_of (parts_of ts) ≡ nodes_all ts
nodes-parts [] = refl
nodes-parts (t ∷ ts) = ap (λ n. nodes t + n) (nodes-parts ts)

nodes-split : (ts : List Tree) → 0 < length ts → nodes_all ts ≡ nodes_all (front ts) + nodes (back ts)
nodes-split [] h = absurd (omega arith)
nodes-split (t ∷ []) h = omega arith
nodes-split (t ∷ u ∷ ts) h = let e = nodes-split (u ∷ ts) (omega arith) in omega (arith, e)

-- the size of a node is one more than those of its parts
pub nodes-made : (k : RowKind) (ns : List ℕ) (ts : List Tree) → HasShape k (length ts) → nodes (make_kind k ns ts) ≡ suc (nodes_all ts)
nodes-made Bound ns [] h = refl
nodes-made Bound ns (t ∷ ts) h = absurd (omega arith)
nodes-made (Symbol f) ns ts h = ap suc (nodes-parts ts)
nodes-made (Plain g) ns ts h = ap suc (nodes-parts ts)
nodes-made (Binding b) ns ts h = ap suc (ap (λ n. n + nodes (back ts)) (nodes-parts (front ts)) ∙ sym (nodes-split ts h))
