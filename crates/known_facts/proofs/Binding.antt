-- Symbols bound, and what is said under items.
use Rattle.std.proofs.Common.{◌≡◌, ℕ, suc, Bool, true, false, cond, List, [], ◌∷◌, refl, ap}
use Rattle.std.specs.Prelude.{Some, None}
use Rattle.core_expr.specs.declared.head.Sym.{Sym}
use Rattle.core_expr.specs.Tree.{Tree, Parts}
use Rattle.core_expr.specs.Tree.Tree.{bound, app, node, bind}
use Rattle.core_expr.specs.Tree.Parts.{end, part}
use Rattle.core_expr.specs.Terms.{same_sym}
use Rattle.expr_parts.specs.declared.change.Change.TheVariants as change
use Rattle.expr_parts.specs.Rebuilt.{otherwise, rebuilt, all_rebuilt}
use Rattle.proof_contexts.specs.Expansion.{abstract_at, abstracts_at, abstract}
use Rattle.proof_contexts.specs.Steps.{Item}
use Rattle.proof_contexts.specs.Steps.Item.{New, NewIn, Given}
use Rattle.proof_contexts.specs.Contexts.{fact_of, picked}
use Rattle.known_facts.specs.declared.item.Quantifier.TheVariants.{All, Exists}
use Rattle.known_facts.specs.Binding.{over_items, under}

by-test : (b : Bool) (u x : Tree) → otherwise (cond b (Some u) None) x ≡ cond b u x
by-test true u x = refl
by-test false u x = refl

mutual
  bound-is : (c : Sym) (d : ℕ) (e : Tree) → rebuilt (change.Bind c) d e ≡ abstract_at c d e
  bound-is c d (bound i) = refl
  bound-is c d (app f end) = by-test (same_sym c f) (bound d) (app f end)
  bound-is c d (app f (part e ps)) = λ i. app f (part (bound-is c d e i) (all-bound c d ps i))
  bound-is c d (node h ns ps) = ap (node h ns) (all-bound c d ps)
  bound-is c d (bind b ps e) = λ i. bind b (all-bound c d ps i) (bound-is c (suc d) e i)

  all-bound : (c : Sym) (d : ℕ) (ps : Parts) → all_rebuilt (change.Bind c) d ps ≡ abstracts_at c d ps
  all-bound c d end = refl
  all-bound c d (part e ps) = λ i. part (bound-is c d e i) (all-bound c d ps i)

pub abstract_is : (c : Sym) (e : Tree) → rebuilt (change.Bind c) 0 e ≡ abstract c e
abstract_is c e = bound-is c 0 e

pub fact_is : (is : List Item) (g : Tree) → over_items All is g ≡ fact_of is g
fact_is [] g = refl
fact_is (New x ∷ is) g = ap (under All (New x)) (fact_is is g)
fact_is (NewIn x s ∷ is) g = ap (under All (NewIn x s)) (fact_is is g)
fact_is (Given a ∷ is) g = ap (under All (Given a)) (fact_is is g)

pub picked_is : (is : List Item) (g : Tree) → over_items Exists is g ≡ picked is g
picked_is [] g = refl
picked_is (New x ∷ is) g = ap (under Exists (New x)) (picked_is is g)
picked_is (NewIn x s ∷ is) g = ap (under Exists (NewIn x s)) (picked_is is g)
picked_is (Given a ∷ is) g = ap (under Exists (Given a)) (picked_is is g)
