-- Which nodes are metavariables.
use Rattle.std.proofs.Common.{◌≡◌, ℕ, ◌<◌, Bool, true, false, nat_eq, Some, None, List, [], ◌∷◌, ◌++◌, ◌||◌, length, get_or, refl, ap, sym, ◌∙◌, arith}
use Rattle.std.specs.List.{list_any}
use Rattle.std.proofs.lemmas.Bool.{and_parts, eqb-true}
use Rattle.core_expr.specs.declared.head.Sym.{Sym}
use Rattle.core_expr.specs.declared.row.RowKind.{RowKind}
use Rattle.core_expr.specs.declared.row.RowKind.TheVariants.{Bound, Symbol, Plain, Binding}
use Rattle.core_expr.specs.Tree.{Tree}
use Rattle.core_expr.specs.Tree.Tree.{app}
use Rattle.core_expr.specs.Tree.Parts.{end}
use Rattle.core_expr.specs.Terms.{same_sym}
use Rattle.core_expr.specs.Heads.{kind_at, kind_table, kind_number, make_kind, first, after_first}
use Rattle.core_expr.specs.Nodes.{Node, canon_sym, node_kind, node_fits, numbers_fit, picked}
use Rattle.core_expr.proofs.NodeLaws.{node_numbers_fit, node_below, kind_number-node}
use Rattle.unifier_definition.specs.Metas.{listed, meta_of}
use Rattle.unifier_definition.proofs.Substituted.{either}
use Rattle.term_bank.specs.Banks.{HasNode, tree_at}
use Rattle.term_bank.proofs.TableLaws.{fits-picked, length-picked}
use Rattle.unify_meta.specs.Metas.{symbols, IsMeta}

pub same-constant : (m n : ℕ) → same_sym (canon_sym m 0) (canon_sym n 0) ≡ nat_eq m n
same-constant m n = go (nat_eq m n)
  where
    go : (b : Bool) → either b true false ≡ b
    go true = refl
    go false = refl

pub no_number : (m n : ℕ) → (m ≡ n → ⊥) → nat_eq m n ≡ false
no_number m n ne = go (nat_eq m n) refl
  where
    go : (b : Bool) → nat_eq m n ≡ b → nat_eq m n ≡ false
    go true e = absurd (ne (eqb-true m n e))
    go false e = e

pub listed-any : (ns : List ℕ) (n : ℕ) → list_any (λ y. nat_eq y n) ns ≡ listed (symbols ns) (canon_sym n 0)
listed-any [] n = refl
listed-any (m ∷ ns) n =
    go (nat_eq m n) (listed-any ns n)
    ∙ ap (λ b. either b true (listed (symbols ns) (canon_sym n 0))) (sym (same-constant m n))
  where
    go : (b : Bool) → list_any (λ y. nat_eq y n) ns ≡ listed (symbols ns) (canon_sym n 0) → (b || list_any (λ y. nat_eq y n) ns) ≡ either b true (listed (symbols ns) (canon_sym n 0))
    go true e = refl
    go false e = e

-- joined lists
pub symbols-append : (xs ys : List ℕ) → symbols (xs ++ ys) ≡ symbols xs ++ symbols ys
symbols-append [] ys = refl
symbols-append (x ∷ xs) ys = ap (λ fs. canon_sym x 0 ∷ fs) (symbols-append xs ys)

-- a node that is no symbol, or has parts
kind-none : (ms : List Sym) (k : RowKind) (ns : List ℕ) (ss : List Tree) → (kind_number k ≡ 6 → ⊥) → meta_of ms (make_kind k ns ss) ≡ None
kind-none ms Bound ns ss ne = refl
kind-none ms (Symbol f) ns ss ne = absurd (ne refl)
kind-none ms (Plain h) ns ss ne = refl
kind-none ms (Binding b) ns ss ne = refl

parts-none : (ms : List Sym) (k : RowKind) (ns : List ℕ) (ss : List Tree) → (length ss ≡ 0 → ⊥) → meta_of ms (make_kind k ns ss) ≡ None
parts-none ms k ns [] ne = absurd (ne refl)
parts-none ms Bound ns (s ∷ ss) ne = refl
parts-none ms (Symbol f) ns (s ∷ ss) ne = refl
parts-none ms (Plain h) ns (s ∷ ss) ne = refl
parts-none ms (Binding b) ns (s ∷ ss) ne = refl

pub no_symbol : (ms : List Sym) (ts : List Tree) (i : ℕ) (n : Node) → HasNode ts i n → (n.head ≡ 6 → ⊥) → meta_of ms (tree_at ts i) ≡ None
no_symbol ms ts i n g ne =
    ap (meta_of ms) g.tree ∙ kind-none ms (node_kind n.head n.numbers) n.numbers (picked ts n.parts) (λ e. ne (sym number ∙ e))
  where
    number : kind_number (node_kind n.head n.numbers) ≡ n.head
    number = kind_number-node n.head n.numbers (let l = node_below n.head n.numbers _ (fits-picked ts n g.node.0) in omega arith)

pub no_constant : (ms : List Sym) (ts : List Tree) (i : ℕ) (n : Node) → HasNode ts i n → (length n.parts ≡ 0 → ⊥) → meta_of ms (tree_at ts i) ≡ None
no_constant ms ts i n g ne =
    ap (meta_of ms) g.tree ∙ parts-none ms (node_kind n.head n.numbers) n.numbers (picked ts n.parts) (λ e. ne (sym (length-picked ts n.parts) ∙ e))

-- a symbol without parts is a constant
symbol-fits : (h : ℕ) (ns : List ℕ) (k : ℕ) → h ≡ 6 → node_fits h ns k ≡ true → (node_kind h ns ≡ Symbol (canon_sym (first ns) (first (after_first ns)))) × (nat_eq (length ns) 2 ≡ true) × (k ≡ first (after_first ns))
unfolding kind_at kind_table
symbol-fits h ns k e w =
    let z : node_kind h ns ≡ Symbol (canon_sym (first ns) (first (after_first ns))) = ap (λ x. node_kind x ns) e in
    let p = and_parts (nat_eq (length ns) 2) (nat_eq k (first (after_first ns))) (ap (λ r. numbers_fit r ns k) (sym z) ∙ node_numbers_fit h ns k w) in
    (z, p.0, eqb-true k (first (after_first ns)) p.1)

pub constant_tree : (ts : List Tree) (i : ℕ) (n : Node) → HasNode ts i n → n.head ≡ 6 → length n.parts ≡ 0 → tree_at ts i ≡ app (canon_sym (first n.numbers) 0) end
constant_tree ts i n g e z =
    let f = symbol-fits n.head n.numbers (length (picked ts n.parts)) e (fits-picked ts n g.node.0) in
    g.tree ∙ ap (λ k. make_kind k n.numbers (picked ts n.parts)) f.0
    ∙ (λ x. make_kind (Symbol (canon_sym (first n.numbers) ((sym f.2 ∙ length-picked ts n.parts ∙ z) x))) n.numbers (none n.parts z x))
  where
    none : (ps : List ℕ) → length ps ≡ 0 → picked ts ps ≡ []
    none [] e = refl
    none (p ∷ ps) e = absurd (omega arith)

pub some_number : (ts : List Tree) (i : ℕ) (n : Node) → HasNode ts i n → n.head ≡ 6 → 0 < length n.numbers
some_number ts i n g e =
    let f = symbol-fits n.head n.numbers (length (picked ts n.parts)) e (fits-picked ts n g.node.0) in
    let l = eqb-true (length n.numbers) 2 f.1 in omega (arith, l)

pub first-is : (ns : List ℕ) (x : ℕ) → 0 < length ns → x ≡ get_or ns 0 x → first ns ≡ x
first-is [] x l e = absurd (omega arith)
first-is (n ∷ ns) x l e = sym e

-- a constant that is listed, or is not
pub is_meta : (ms : List ℕ) (ts : List Tree) (i : ℕ) (n : Node) (x : ℕ) (b : Bool) → HasNode ts i n → n.head ≡ 6 → length n.parts ≡ 0 → first n.numbers ≡ x → b ≡ listed (symbols ms) (canon_sym x 0) → b ≡ true → IsMeta (symbols ms) (tree_at ts i) (Some x)
is_meta ms ts i n x b g e z f l t =
    let tree = constant_tree ts i n g e z ∙ ap (λ y. app (canon_sym y 0) end) f in
    (ap (meta_of (symbols ms)) tree ∙ ap (λ c. either c (Some (canon_sym x 0)) None) (sym l ∙ t), tree)

pub no_meta : (ms : List ℕ) (ts : List Tree) (i : ℕ) (n : Node) (x : ℕ) (b : Bool) → HasNode ts i n → n.head ≡ 6 → length n.parts ≡ 0 → first n.numbers ≡ x → b ≡ listed (symbols ms) (canon_sym x 0) → b ≡ false → meta_of (symbols ms) (tree_at ts i) ≡ None
no_meta ms ts i n x b g e z f l t =
    ap (meta_of (symbols ms)) (constant_tree ts i n g e z ∙ ap (λ y. app (canon_sym y 0) end) f)
    ∙ ap (λ c. either c (Some (canon_sym x 0)) None) (sym l ∙ t)
