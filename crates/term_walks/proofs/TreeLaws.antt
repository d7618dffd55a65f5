-- Replacing and occurring, by the parts of a node.
use Rattle.std.proofs.Common.{◌≡◌, ℕ, ◌<◌, Bool, true, false, nat_eq, Option, Some, None, List, [], ◌∷◌, length, map, refl, ap, sym, ◌∙◌, arith}
use Rattle.std.proofs.lemmas.Bool.{and_parts, eqb-true}
use Rattle.core_expr.specs.declared.row.RowKind.{RowKind}
use Rattle.core_expr.specs.declared.row.RowKind.TheVariants.{Bound, Symbol, Plain, Binding}
use Rattle.core_expr.specs.Tree.{Tree, Parts}
use Rattle.core_expr.specs.Tree.Tree.{bound, app, node, bind}
use Rattle.core_expr.specs.Tree.Parts.{end, part}
use Rattle.core_expr.specs.Terms.{same}
use Rattle.core_expr.specs.Put.{IsScoped}
use Rattle.core_expr.specs.Heads.{make_kind, parts_of, front, back, kept_numbers, first, HasBody}
use Rattle.core_expr.specs.Nodes.{node_kind, node_fits, numbers_fit}
use Rattle.core_expr.proofs.NodeLaws.{node_numbers_fit, node-body}
use Rattle.search_definition.specs.Terms.{if_so, either, occurs, occurs_in, replace, replaces}
use Rattle.term_walks.specs.Moved.{or_self, moved, moved_parts}

-- how many parts a node may have: a variable none, a binder at least its body
abbrev pub HasShape : RowKind → ℕ → Type 0
HasShape Bound n = n ≡ 0
HasShape (Symbol f) n = Unit {0}
HasShape (Plain h) n = Unit {0}
HasShape (Binding b) n = 0 < n

pub shape-node : (h : ℕ) (ns : List ℕ) (k : ℕ) → node_fits h ns k ≡ true → HasShape (node_kind h ns) k
shape-node h ns k w = go (node_kind h ns) (node_numbers_fit h ns k w) (node-body h ns k w)
  where
    go : (r : RowKind) → numbers_fit r ns k ≡ true → HasBody r k → HasShape r k
    go Bound p b = eqb-true k 0 (and_parts (nat_eq (length ns) 1) (nat_eq k 0) p).1
    go (Symbol f) p b = tt
    go (Plain g) p b = tt
    go (Binding g) p b = b

parts_of-moved : (r : Tree → Option Tree) (ts : List Tree) → moved_parts r (parts_of ts) ≡ parts_of (map (moved r) ts)
parts_of-moved r [] = refl
parts_of-moved r (t ∷ ts) = ap (part (moved r t)) (parts_of-moved r ts)

front-map : (f : Tree → Tree) (ts : List Tree) → front (map f ts) ≡ map f (front ts)
front-map f [] = refl
front-map f (t ∷ []) = refl
front-map f (t ∷ u ∷ ts) = ap (λ us. f t ∷ us) (front-map f (u ∷ ts))

back-map : (f : Tree → Tree) (ts : List Tree) → 0 < length ts → back (map f ts) ≡ f (back ts)
back-map f [] h = absurd (omega arith)
back-map f (t ∷ []) h = refl
back-map f (t ∷ u ∷ ts) h = back-map f (u ∷ ts) (omega arith)

-- a node for which nothing is given stays over its parts as they become
pub moved-made : (r : Tree → Option Tree) (k : RowKind) (ns : List ℕ) (ts : List Tree) → HasShape k (length ts) → r (make_kind k ns ts) ≡ None → moved r (make_kind k ns ts) ≡ make_kind k ns (map (moved r) ts)
moved-made r Bound ns ts h e = ap (λ o. or_self o (bound (first ns))) e
moved-made r (Symbol f) ns ts h e =
    ap (λ o. or_self o (app f (moved_parts r (parts_of ts)))) e ∙ ap (app f) (parts_of-moved r ts)
moved-made r (Plain g) ns ts h e =
    ap (λ o. or_self o (node g (kept_numbers g ns) (moved_parts r (parts_of ts)))) e ∙ ap (node g (kept_numbers g ns)) (parts_of-moved r ts)
moved-made r (Binding b) ns ts h e =
    ap (λ o. or_self o (bind b (moved_parts r (parts_of (front ts))) (moved r (back ts)))) e
    ∙ (λ i. bind b ((parts_of-moved r (front ts) ∙ ap parts_of (sym (front-map (moved r) ts))) i) (sym (back-map (moved r) ts h) i))

-- what is given
pub moved-given : (r : Tree → Option Tree) (e t : Tree) → r e ≡ Some t → moved r e ≡ t
moved-given r (bound i) t h = ap (λ o. or_self o (bound i)) h
moved-given r (app f ps) t h = ap (λ o. or_self o (app f (moved_parts r ps))) h
moved-given r (node g ns ps) t h = ap (λ o. or_self o (node g ns (moved_parts r ps))) h
moved-given r (bind b ps e) t h = ap (λ o. or_self o (bind b (moved_parts r ps) (moved r e))) h

-- one term for another
abbrev pub one_given : Tree → Tree → Tree → Option Tree
one_given s t x = if_so (same s x) (Some t) None

chosen : (b : Bool) (t x y : Tree) → x ≡ y → or_self (if_so b (Some t) None) x ≡ if_so b t y
chosen true t x y e = refl
chosen false t x y e = e

no_variable : (s : Tree) (i : ℕ) → IsScoped 0 s → same s (bound i) ≡ false
no_variable (bound j) i h = absurd (omega arith)
no_variable (app f ps) i h = refl
no_variable (node g ns ps) i h = refl
no_variable (bind b ps e) i h = refl

module _ (s t : Tree) (closed : IsScoped 0 s) where
  mutual
    pub moved-replace : (e : Tree) → moved (one_given s t) e ≡ replace s t e
    moved-replace (bound i) = ap (λ b. or_self (if_so b (Some t) None) (bound i)) (no_variable s i closed)
    moved-replace (app f ps) = chosen (same s (app f ps)) t (app f (moved_parts (one_given s t) ps)) (app f (replaces s t ps)) (ap (app f) (moved-replaces ps))
    moved-replace (node g ns ps) = chosen (same s (node g ns ps)) t (node g ns (moved_parts (one_given s t) ps)) (node g ns (replaces s t ps)) (ap (node g ns) (moved-replaces ps))
    moved-replace (bind b ps e) = chosen (same s (bind b ps e)) t (bind b (moved_parts (one_given s t) ps) (moved (one_given s t) e)) (bind b (replaces s t ps) (replace s t e)) (λ i. bind b (moved-replaces ps i) (moved-replace e i))

    pub moved-replaces : (ps : Parts) → moved_parts (one_given s t) ps ≡ replaces s t ps
    moved-replaces end = refl
    moved-replaces (part e ps) = λ i. part (moved-replace e i) (moved-replaces ps i)

-- s occurs in one of these
abbrev pub occurs_any : Tree → List Tree → Bool
occurs_any s [] = false
occurs_any s (t ∷ ts) = either (occurs s t) (occurs_any s ts)

occurs_in-parts_of : (s : Tree) (ts : List Tree) → occurs_in s (parts_of ts) ≡ occurs_any s ts
occurs_in-parts_of s [] = refl
occurs_in-parts_of s (t ∷ ts) = ap (either (occurs s t)) (occurs_in-parts_of s ts)

either_false : (b : Bool) → either b false ≡ b
either_false true = refl
either_false false = refl

either_assoc : (a b c : Bool) → either a (either b c) ≡ either (either a b) c
either_assoc true b c = refl
either_assoc false b c = refl

occurs_any-split : (s : Tree) (ts : List Tree) → 0 < length ts → occurs_any s ts ≡ either (occurs_any s (front ts)) (occurs s (back ts))
occurs_any-split s [] h = absurd (omega arith)
occurs_any-split s (t ∷ []) h = either_false (occurs s t)
occurs_any-split s (t ∷ u ∷ ts) h =
    ap (either (occurs s t)) (occurs_any-split s (u ∷ ts) (omega arith)) ∙ either_assoc (occurs s t) (occurs_any s (front (u ∷ ts))) (occurs s (back (u ∷ ts)))

-- a node that is not s has s exactly where one of its parts has it
pub occurs-made : (s : Tree) (k : RowKind) (ns : List ℕ) (ts : List Tree) → HasShape k (length ts) → same s (make_kind k ns ts) ≡ false → occurs s (make_kind k ns ts) ≡ occurs_any s ts
occurs-made s Bound ns [] h e = e
occurs-made s Bound ns (t ∷ ts) h e = absurd (omega arith)
occurs-made s (Symbol f) ns ts h e = ap (λ b. either b (occurs_in s (parts_of ts))) e ∙ occurs_in-parts_of s ts
occurs-made s (Plain g) ns ts h e = ap (λ b. either b (occurs_in s (parts_of ts))) e ∙ occurs_in-parts_of s ts
occurs-made s (Binding b) ns ts h e =
    ap (λ b. either b (either (occurs_in s (parts_of (front ts))) (occurs s (back ts)))) e ∙ ap (λ b. either b (occurs s (back ts))) (occurs_in-parts_of s (front ts))
    ∙ sym (occurs_any-split s ts h)

-- a term occurs in itself
pub occurs-self : (s e : Tree) → same s e ≡ true → occurs s e ≡ true
occurs-self s (bound i) h = h
occurs-self s (app f ps) h = ap (λ b. either b (occurs_in s ps)) h
occurs-self s (node g ns ps) h = ap (λ b. either b (occurs_in s ps)) h
occurs-self s (bind b ps e) h = ap (λ x. either x (either (occurs_in s ps) (occurs s e))) h
