-- Taking formulas apart into signed atoms.
use Rattle.std.proofs.Common.{◌≡◌, ℕ, suc, ◌+◌, ◌*◌, Bool, true, false, nat_eq, nat_le, Option, Some, None, List, [], ◌∷◌, length, refl, ap, sym, ◌∙◌, arith, subst}
use Rattle.std.proofs.lemmas.Bool.Decides.{nat_tests}
use Rattle.core_expr.specs.declared.head.Sym.{Sym}
use Rattle.core_expr.specs.declared.row.RowKind.{RowKind}
use Rattle.core_expr.specs.declared.row.RowKind.TheVariants.{Bound, Symbol, Plain, Binding}
use Rattle.core_expr.specs.Tree.{Tree}
use Rattle.core_expr.specs.Tree.Tree.{app}
use Rattle.core_expr.specs.Tree.Parts.{end}
use Rattle.core_expr.specs.Put.{IsScoped, inst}
use Rattle.core_expr.specs.Heads.{make_kind}
use Rattle.core_expr.specs.Nodes.{Node, canon_sym, node_kind, picked}
use Rattle.search_definition.specs.Terms.{if_so, when, after}
use Rattle.search_definition.specs.Plain.{Left, left_side}
use Rattle.search_definition.specs.Instances.{has_no_parts, is_kept_filter, low_right, taken_apart, atoms, atom_or, mapped}
use Rattle.search_definition.proofs.Lefts.{LeftScoped, left_side-scoped, put_scoped}
use Rattle.formula_rules.specs.Answers.{HasTerm}
use Rattle.term_shapes.specs.declared.shape.Shape.{Shape}
use Rattle.term_shapes.specs.declared.shape.Shape.TheVariants as shape
use Rattle.term_shapes.specs.Shapes.{HasShape}
use Rattle.term_bank.specs.Banks.{HasNode, HasTree, tree_at}
use Rattle.term_bank.proofs.TableLaws.{fits-picked, length-picked}
use Rattle.term_walks.proofs.TreeLaws.{shape-node}
use Rattle.term_walks.proofs.TreeLaws as walk
use Rattle.instance_terms.specs.declared.expand.Part.{Part}
use Rattle.instance_terms.specs.declared.expand.Expansion.TheVariants.{One}
use Rattle.instance_terms.specs.Fresh.{meta_from}
use Rattle.instance_terms.specs.Atoms.{part_of, IsOpened, IsAtomStep, IsExpansion}

-- a single node
made-alone : (k : RowKind) (ns : List ℕ) (ss : List Tree) → walk.HasShape k (length ss) → nat_eq (length ss) 0 ≡ has_no_parts (make_kind k ns ss)
made-alone Bound ns ss h = ap (λ n. nat_eq n 0) h
made-alone (Symbol f) ns [] h = refl
made-alone (Symbol f) ns (s ∷ ss) h = grind (arith, nat_tests)
made-alone (Plain g) ns [] h = refl
made-alone (Plain g) ns (s ∷ ss) h = grind (arith, nat_tests)
made-alone (Binding b) ns ss h = grind (arith, nat_tests)

pub stands_alone : (ts : List Tree) (i : ℕ) (n : Node) (b : Bool) → HasNode ts i n → b ≡ nat_eq (length n.parts) 0 → b ≡ has_no_parts (tree_at ts i)
stands_alone ts i n b g e =
    e ∙ ap (λ k. nat_eq k 0) (sym (length-picked ts n.parts)) ∙ made-alone (node_kind n.head n.numbers) n.numbers (picked ts n.parts) (shape-node n.head n.numbers _ (fits-picked ts n g.node.0))
    ∙ ap has_no_parts (sym g.tree)

-- a right side of a closed formula is closed
closed_right : (t x : Tree) → IsScoped 0 t → taken_apart t ≡ Some x → IsScoped 0 x
closed_right t x c e = kept (is_kept_filter t) e
  where
    low : (l : Left) → LeftScoped 0 (Some l) → (b : Bool) → when b l.right ≡ Some x → IsScoped 0 x
    low l s true e = subst (IsScoped 0) (let z : l.right ≡ x = cc in z) s
    low l s false e = cc

    side : (o : Option Left) → LeftScoped 0 o → after low_right o ≡ Some x → IsScoped 0 x
    side None s e = cc
    side (Some l) s e = low l s (nat_le l.schema 10) e

    kept : (b : Bool) → if_so b None (after low_right (left_side t)) ≡ Some x → IsScoped 0 x
    kept true e = cc
    kept false e = side (left_side t) (left_side-scoped 0 t c) e

pub atom_apart : (now : List Tree) (p : Part) (t : Tree) (right : ℕ) (q : Part) → IsScoped 0 t → q ≡ part_of p p.holds right → HasTerm now (Some right) (taken_apart t) → IsAtomStep now p t (One q)
atom_apart now p t right q c e h = subst (λ x. IsAtomStep now p t (One x)) (sym e) (go (taken_apart t) refl h)
  where
    go : (o : Option Tree) → taken_apart t ≡ o → HasTerm now (Some right) o → IsAtomStep now p t (One (part_of p p.holds right))
    go None z h = absurd h
    go (Some x) z h = record {
      parts = record { within = h.within; closed = subst (IsScoped 0) (sym h.tree) (closed_right t x c z) };
      same = λ name r. ap (λ o. atom_or p.holds p.metas t (mapped (atoms name r p.metas p.holds) o)) z ∙ ap (atoms name r p.metas p.holds) (sym h.tree);
    }

-- a body with the next metavariable
pub body_opened : (two now : List Tree) (first number meta formula metas : ℕ) (p : Part) (body : Tree) (b : ℕ) → number ≡ first + 2 * p.metas → metas ≡ p.metas + 1 → HasTree two meta (app (canon_sym number 0) end) → tree_at two b ≡ body → HasTree now formula (inst (tree_at two b) (tree_at two meta)) → IsOpened now (meta_from first) p body (One (record { holds = p.holds; formula = formula; metas = metas }))
body_opened two now first number meta formula metas p body b en em g eb h =
    record {
      parts = record { within = h.within; closed = subst (IsScoped 0) (sym (h.tree ∙ whole)) (put_scoped 0 body (app (meta_from first p.metas) end) tt) };
      same = λ r t. λ i. atoms (meta_from first) r (deeper i) p.holds (sym (h.tree ∙ whole) i);
    }
  where
    whole : inst (tree_at two b) (tree_at two meta) ≡ inst body (app (meta_from first p.metas) end)
    whole = λ i. inst (eb i) ((g.tree ∙ ap (λ x. app (canon_sym x 0) end) en) i)

    deeper : suc p.metas ≡ metas
    deeper = omega (arith, em)

-- the forms that are no connective, quantifier or truth value
abbrev pub IsLeaf : Shape → Type 0
IsLeaf shape.True = ⊥
IsLeaf shape.False = ⊥
IsLeaf (shape.Not a) = ⊥
IsLeaf (shape.And a b) = ⊥
IsLeaf (shape.Or a b) = ⊥
IsLeaf (shape.Imp a b) = ⊥
IsLeaf (shape.Iff a b) = ⊥
IsLeaf (shape.All a) = ⊥
IsLeaf (shape.Ex a) = ⊥
IsLeaf _ = Unit {0}

leaf-atoms : (ts : List Tree) (t : Tree) (s : Shape) → HasShape ts t s → IsLeaf s → (name : ℕ → Sym) (r d : ℕ) (b : Bool) → atoms name (suc r) d b t ≡ atom_or b d t (mapped (atoms name r d b) (taken_apart t))
leaf-atoms ts t shape.True h l name r d b = absurd l
leaf-atoms ts t shape.False h l name r d b = absurd l
leaf-atoms ts t (shape.Not x) h l name r d b = absurd l
leaf-atoms ts t (shape.And x y) h l name r d b = absurd l
leaf-atoms ts t (shape.Or x y) h l name r d b = absurd l
leaf-atoms ts t (shape.Imp x y) h l name r d b = absurd l
leaf-atoms ts t (shape.Iff x y) h l name r d b = absurd l
leaf-atoms ts t (shape.All x) h l name r d b = absurd l
leaf-atoms ts t (shape.Ex x) h l name r d b = absurd l
leaf-atoms ts t _ h l name r d b =
    subst (λ x. atoms name (suc r) d b x ≡ atom_or b d x (mapped (atoms name r d b) (taken_apart x))) (sym h) refl

pub leaf_expands : (ts now : List Tree) (name : ℕ → Sym) (p : Part) (t : Tree) (s : Shape) (e : _) → HasShape ts t s → IsLeaf s → IsAtomStep now p t e → IsExpansion now name p t e
leaf_expands ts now name p t s e h l a =
    record { parts = a.parts; same = λ r. leaf-atoms ts t s h l name r p.metas p.holds ∙ a.same name r }
