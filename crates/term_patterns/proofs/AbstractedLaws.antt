-- Abstracting over the parts of a node.
use Rattle.std.proofs.Common.{◌≡◌, ℕ, suc, ◌+◌, ◌<◌, Bool, true, false, List, [], ◌∷◌, length, refl, ap, sym, ◌∙◌, arith}
use Rattle.core_expr.specs.declared.row.RowKind.{RowKind}
use Rattle.core_expr.specs.declared.row.RowKind.TheVariants.{Bound, Symbol, Plain, Binding}
use Rattle.core_expr.specs.Tree.{Tree, Parts}
use Rattle.core_expr.specs.Tree.Tree.{bound, app, node, bind}
use Rattle.core_expr.specs.Tree.Parts.{end, part}
use Rattle.core_expr.specs.Terms.{same, nodes, nodes_of}
use Rattle.core_expr.specs.Heads.{make_kind, parts_of, front, back, kept_numbers}
use Rattle.core_expr.proofs.Equal.{same-refl}
use Rattle.search_definition.specs.Terms.{if_so}
use Rattle.term_bank.specs.Loose.{binds}
use Rattle.term_walks.proofs.TreeLaws.{HasShape}
use Rattle.term_patterns.specs.Abstracted.{abstracted, abstracteds}
use Rattle.term_patterns.specs.Depths.{deeper}
use Rattle.term_patterns.specs.Walked.{is_bound}

-- the parts as they become, the last of them one deeper under a binder
abbrev pub abs_all : Tree → Bool → ℕ → List Tree → List Tree
abs_all s b d [] = []
abs_all s b d (t ∷ []) = abstracted s (deeper b d) t ∷ []
abs_all s b d (t ∷ u ∷ ts) = abstracted s d t ∷ abs_all s b d (u ∷ ts)

abs-plain : (s : Tree) (d : ℕ) (ts : List Tree) → abstracteds s d (parts_of ts) ≡ parts_of (abs_all s false d ts)
abs-plain s d [] = refl
abs-plain s d (t ∷ []) = refl
abs-plain s d (t ∷ u ∷ ts) = ap (part (abstracted s d t)) (abs-plain s d (u ∷ ts))

abs-front : (s : Tree) (d : ℕ) (ts : List Tree) → abstracteds s d (parts_of (front ts)) ≡ parts_of (front (abs_all s true d ts))
abs-front s d [] = refl
abs-front s d (t ∷ []) = refl
abs-front s d (t ∷ u ∷ []) = refl
abs-front s d (t ∷ u ∷ v ∷ ts) = ap (part (abstracted s d t)) (abs-front s d (u ∷ v ∷ ts))

abs-back : (s : Tree) (d : ℕ) (ts : List Tree) → 0 < length ts → abstracted s (suc d) (back ts) ≡ back (abs_all s true d ts)
abs-back s d [] h = absurd (omega arith)
abs-back s d (t ∷ []) h = refl
abs-back s d (t ∷ u ∷ []) h = refl
abs-back s d (t ∷ u ∷ v ∷ ts) h = abs-back s d (u ∷ v ∷ ts) (omega arith)

-- a node that is not s stays over its parts as they become
pub abstracted-made : (s : Tree) (k : RowKind) (d : ℕ) (ns : List ℕ) (ts : List Tree) → HasShape k (length ts) → same s (make_kind k ns ts) ≡ false → abstracted s d (make_kind k ns ts) ≡ make_kind k ns (abs_all s (binds k) d ts)
abstracted-made s Bound d ns ts h e = refl
abstracted-made s (Symbol f) d ns ts h e =
    ap (λ b. if_so b (bound d) (app f (abstracteds s d (parts_of ts)))) e ∙ ap (app f) (abs-plain s d ts)
abstracted-made s (Plain g) d ns ts h e =
    ap (λ b. if_so b (bound d) (node g (kept_numbers g ns) (abstracteds s d (parts_of ts)))) e ∙ ap (node g (kept_numbers g ns)) (abs-plain s d ts)
abstracted-made s (Binding b) d ns ts h e =
    ap (λ x. if_so x (bound d) (bind b (abstracteds s d (parts_of (front ts))) (abstracted s (suc d) (back ts)))) e
    ∙ (λ i. bind b (abs-front s d ts i) (abs-back s d ts h i))

-- s becomes the variable
pub abstracted-self : (s : Tree) (d : ℕ) → is_bound s ≡ false → abstracted s d s ≡ bound d
abstracted-self (bound i) d h = cc
abstracted-self (app f ps) d h = ap (λ b. if_so b (bound d) (app f (abstracteds (app f ps) d ps))) (same-refl (app f ps))
abstracted-self (node g ns ps) d h = ap (λ b. if_so b (bound d) (node g ns (abstracteds (node g ns ps) d ps))) (same-refl (node g ns ps))
abstracted-self (bind b ps e) d h =
    ap (λ x. if_so x (bound d) (bind b (abstracteds (bind b ps e) d ps) (abstracted (bind b ps e) (suc d) e))) (same-refl (bind b ps e))

-- a variable is never abstracted
mutual
  pub abstracted-bound : (j d : ℕ) (e : Tree) → abstracted (bound j) d e ≡ e
  abstracted-bound j d (bound i) = refl
  abstracted-bound j d (app f ps) = ap (app f) (abstracteds-bound j d ps)
  abstracted-bound j d (node g ns ps) = ap (node g ns) (abstracteds-bound j d ps)
  abstracted-bound j d (bind b ps e) = λ i. bind b (abstracteds-bound j d ps i) (abstracted-bound j (suc d) e i)

  abstracteds-bound : (j d : ℕ) (ps : Parts) → abstracteds (bound j) d ps ≡ ps
  abstracteds-bound j d end = refl
  abstracteds-bound j d (part e ps) = λ i. part (abstracted-bound j d e i) (abstracteds-bound j d ps i)

pub no_occurrence : (s : Tree) (d : ℕ) (e : Tree) → is_bound s ≡ true → abstracted s d e ≡ e
no_occurrence (bound j) d e h = abstracted-bound j d e
no_occurrence (app f ps) d e h = cc
no_occurrence (node g ns ps) d e h = cc
no_occurrence (bind b ps x) d e h = cc

-- the nodes of these together
abbrev pub nodes_all : List Tree → ℕ
nodes_all [] = 0
nodes_all (t ∷ ts) = nodes t + nodes_all ts

nodes-parts : (ts : List Tree) → nodes_of (parts_of ts) ≡ nodes_all ts
nodes-parts [] = refl
nodes-parts (t ∷ ts) = ap (λ n. nodes t + n) (nodes-parts ts)

nodes-split : (ts : List Tree) → 0 < length ts → nodes_all ts ≡ nodes_all (front ts) + nodes (back ts)
nodes-split [] h = absurd (omega arith)
nodes-split (t ∷ []) h = omega arith
nodes-split (t ∷ u ∷ ts) h = let e = nodes-split (u ∷ ts) (omega arith) in omega (arith, e)

pub nodes-made : (k : RowKind) (ns : List ℕ) (ts : List Tree) → HasShape k (length ts) → nodes (make_kind k ns ts) ≡ suc (nodes_all ts)
nodes-made Bound ns [] h = refl
nodes-made Bound ns (t ∷ ts) h = absurd (omega arith)
nodes-made (Symbol f) ns ts h = ap suc (nodes-parts ts)
nodes-made (Plain g) ns ts h = ap suc (nodes-parts ts)
nodes-made (Binding b) ns ts h = ap suc (ap (λ n. n + nodes (back ts)) (nodes-parts (front ts)) ∙ sym (nodes-split ts h))
