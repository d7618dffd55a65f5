-- Entering trees adds to a table, and a tree that was entered stands there.
use Rattle.std.proofs.Common.{◌≡◌, ℕ, List, [], ◌∷◌, ◌++◌, refl, ap, ◌∙◌}
use Rattle.core_expr.specs.Tree.{Tree, Parts}
use Rattle.core_expr.specs.Tree.Tree.{bound, app, node, bind}
use Rattle.core_expr.specs.Tree.Parts.{end, part}
use Rattle.core_expr.specs.Heads.{list_of, subtrees}
use Rattle.core_expr.specs.Places.{kind_of, root_numbers}
use Rattle.seq_calculus.specs.declared.lists.ProofNode.{ProofNode}
use Rattle.text_writer.specs.Shared.{here}
use Rattle.text_writer.specs.Tables.{Placed, AllPlaced, node_over, root, with_first, with_last, enter, enter_parts, enter_all}
use Rattle.text_writer.proofs.PutLaws.{Extends, same, join, put-extends, put-again}

-- a table and places in it
abbrev pub here_all : List ProofNode → List ℕ → AllPlaced
here_all ns ps = record { nodes = ns; places = ps }

root-extends : (t : Tree) (a : AllPlaced) → Extends a.nodes (root t a).nodes
root-extends t a = put-extends (node_over (kind_of t) (root_numbers t) a.places) a.nodes

mutual
  pub extends : (t : Tree) (ns : List ProofNode) → Extends ns (enter t ns).nodes
  extends (bound i) ns = root-extends (bound i) (here_all ns [])
  extends (app f ps) ns = join (extends-parts ps ns) (root-extends (app f ps) (enter_parts ps ns))
  extends (node h ms ps) ns = join (extends-parts ps ns) (root-extends (node h ms ps) (enter_parts ps ns))
  extends (bind b ps e) ns =
      let a = enter_parts ps ns in
      join (extends-parts ps ns) (join (extends e a.nodes) (root-extends (bind b ps e) (with_last a (enter e))))

  pub extends-parts : (ps : Parts) (ns : List ProofNode) → Extends ns (enter_parts ps ns).nodes
  extends-parts end ns = same ns
  extends-parts (part e ps) ns = join (extends e ns) (extends-parts ps (enter e ns).nodes)

root-again : (t : Tree) (a : AllPlaced) (new : List ProofNode) → Extends (root t a).nodes new → root t (here_all new a.places) ≡ here new (root t a).place
root-again t a new x = put-again (node_over (kind_of t) (root_numbers t) a.places) a.nodes new x

-- a tree that was entered stands there
mutual
  pub again : (t : Tree) (ns new : List ProofNode) → Extends (enter t ns).nodes new → enter t new ≡ here new (enter t ns).place
  again (bound i) ns new x = root-again (bound i) (here_all ns []) new x
  again (app f ps) ns new x =
      let a = enter_parts ps ns in
      ap (root (app f ps)) (again-parts ps ns new (join (root-extends (app f ps) a) x)) ∙ root-again (app f ps) a new x
  again (node h ms ps) ns new x =
      let a = enter_parts ps ns in
      ap (root (node h ms ps)) (again-parts ps ns new (join (root-extends (node h ms ps) a) x)) ∙ root-again (node h ms ps) a new x
  again (bind b ps e) ns new x =
      let a = enter_parts ps ns in
      let w = with_last a (enter e) in
      let y = join (root-extends (bind b ps e) w) x in
      ap (λ (a : AllPlaced). root (bind b ps e) (with_last a (enter e))) (again-parts ps ns new (join (extends e a.nodes) y))
      ∙ ap (λ (p : Placed). root (bind b ps e) (here_all p.nodes (a.places ++ p.place ∷ []))) (again e a.nodes new y) ∙ root-again (bind b ps e) w new x

  again-parts : (ps : Parts) (ns new : List ProofNode) → Extends (enter_parts ps ns).nodes new → enter_parts ps new ≡ here_all new (enter_parts ps ns).places
  again-parts end ns new x = refl
  again-parts (part e ps) ns new x =
      let p = enter e ns in
      ap (λ (q : Placed). with_first q (enter_parts ps)) (again e ns new (join (extends-parts ps p.nodes) x))
      ∙ ap (λ (a : AllPlaced). here_all a.nodes (p.place ∷ a.places)) (again-parts ps p.nodes new x)

pub extends-all : (ts : List Tree) (ns : List ProofNode) → Extends ns (enter_all ts ns).nodes
extends-all [] ns = same ns
extends-all (t ∷ ts) ns = join (extends t ns) (extends-all ts (enter t ns).nodes)

-- trees that were entered stand there
pub again-all : (ts : List Tree) (ns new : List ProofNode) → Extends (enter_all ts ns).nodes new → enter_all ts new ≡ here_all new (enter_all ts ns).places
again-all [] ns new x = refl
again-all (t ∷ ts) ns new x =
    let p = enter t ns in
    ap (λ (q : Placed). with_first q (enter_all ts)) (again t ns new (join (extends-all ts p.nodes) x))
    ∙ ap (λ (a : AllPlaced). here_all a.nodes (p.place ∷ a.places)) (again-all ts p.nodes new x)

parts-listed : (ps : Parts) (ns : List ProofNode) → enter_parts ps ns ≡ enter_all (list_of ps) ns
parts-listed end ns = refl
parts-listed (part e ps) ns = ap (λ (a : AllPlaced). here_all a.nodes ((enter e ns).place ∷ a.places)) (parts-listed ps (enter e ns).nodes)

last-listed : (ts : List Tree) (e : Tree) (ns : List ProofNode) → with_last (enter_all ts ns) (enter e) ≡ enter_all (ts ++ e ∷ []) ns
last-listed [] e ns = refl
last-listed (t ∷ ts) e ns = ap (λ (a : AllPlaced). here_all a.nodes ((enter t ns).place ∷ a.places)) (last-listed ts e (enter t ns).nodes)

-- a tree is entered as its parts, one after another, and then its root
pub enter-listed : (t : Tree) (ns : List ProofNode) → enter t ns ≡ root t (enter_all (subtrees t) ns)
enter-listed (bound i) ns = refl
enter-listed (app f ps) ns = ap (root (app f ps)) (parts-listed ps ns)
enter-listed (node h ms ps) ns = ap (root (node h ms ps)) (parts-listed ps ns)
enter-listed (bind b ps e) ns =
    ap (root (bind b ps e)) (ap (λ (a : AllPlaced). with_last a (enter e)) (parts-listed ps ns) ∙ last-listed (list_of ps) e ns)
