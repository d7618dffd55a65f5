-- A node of a table of shared nodes shows its head, its numbers and its parts, and a node of a canonical expression is one.
use Rattle.std.proofs.Common.{◌≡◌, ℕ, suc, ◌<◌, Bool, true, false, cond, nat_eq, nat_lt, None, List, [], ◌∷◌, length, refl, ap, sym, ◌∙◌, arith}
use Rattle.std.proofs.lemmas.Bool.Decides.{nat_tests}
use Rattle.std.proofs.lemmas.Bool.{and_parts, and_from, eqb-true, agree_below_at}
use Rattle.core_expr.specs.declared.head.SymKind.{SymKind}
use Rattle.core_expr.specs.declared.head.SymKind.TheVariants.{Constant, State, Primed, Defined, DefinedPrimed, Canon}
use Rattle.core_expr.specs.declared.head.Head.{Head}
use Rattle.core_expr.specs.declared.head.Binder.{Binder}
use Rattle.core_expr.specs.declared.head.Head.TheVariants.{True, False, Num, Str, Boolean, Not, And, Or, Imp, Iff, Eq, In, Subseteq, Enum, Cup, Cap, Diff, Power, Union, FunSet, Dom, Apply, Except, Tuple, If, Temporal}
use Rattle.core_expr.specs.declared.head.Binder.TheVariants.{All, Ex, Filter, Image, Fun, Choose}
use Rattle.core_expr.specs.declared.row.RowKind.{RowKind}
use Rattle.core_expr.specs.declared.row.RowKind.TheVariants.{Bound, Symbol, Plain, Binding}
use Rattle.core_expr.specs.Tree.{Tree}
use Rattle.core_expr.specs.Tree.Tree.{bound, app, node, bind}
use Rattle.core_expr.specs.Terms.{head_code, binder_code}
use Rattle.core_expr.specs.Heads.{kind_table, kind_at, kind_for, kind_number, kind_symbol, kind_fits, is_head, is_empty, first, after_first, parts_of, subtrees, front, back, make_kind, is_canon, is_lasting, is_canonical_kind, is_canonical, are_canonical, is_well_formed, are_well_formed, HasBody}
use Rattle.core_expr.specs.Places.{kind_of, root_numbers}
use Rattle.core_expr.specs.Nodes.{canon_sym, node_kind, node_numbers, numbers_fit, node_fits, node_make}
use Rattle.core_expr.specs.Laws.{ShowsNode}
use Rattle.core_expr.proofs.BuildLaws.{list_of-parts_of, size-parts_of, kind_body, subtrees-make, formed-make}
use Rattle.core_expr.proofs.Shown.{kind_of-make, root_numbers-make, kind_at-number, kind_at-symbol, no_symbol-head, kind_back, is_head-kind, kind_makes, kind_fits-shown}

-- numbers of a symbol's node
symbol-numbers : (ns : List ℕ) → nat_eq (length ns) 2 ≡ true → first ns ∷ first (after_first ns) ∷ [] ≡ ns
symbol-numbers [] w = cc
symbol-numbers (n ∷ []) w = cc
symbol-numbers (n ∷ a ∷ []) w = refl
symbol-numbers (n ∷ a ∷ m ∷ ns) w = absurd (two (length ns) w)
  where
    two : (k : ℕ) → nat_eq (suc (suc (suc k))) 2 ≡ true → ⊥
    two k w = grind (arith, nat_tests)

pub node_below : (h : ℕ) (ns : List ℕ) (k : ℕ) → node_fits h ns k ≡ true → h < 33
node_below h ns k w = let e : nat_lt h 33 ≡ true = (and_parts (nat_lt h 33) (numbers_fit (node_kind h ns) ns k) w).0 in grind (arith, nat_tests)

pub node_numbers_fit : (h : ℕ) (ns : List ℕ) (k : ℕ) → node_fits h ns k ≡ true → numbers_fit (node_kind h ns) ns k ≡ true
node_numbers_fit h ns k w = (and_parts (nat_lt h 33) (numbers_fit (node_kind h ns) ns k) w).1

-- what a node of a table is
pub kind_number-node : (h : ℕ) (ns : List ℕ) → h < 34 → kind_number (node_kind h ns) ≡ h
kind_number-node h ns l = go (nat_eq h 6) refl
  where
    go : (b : Bool) → nat_eq h 6 ≡ b → kind_number (cond b (Symbol (canon_sym (first ns) (first (after_first ns)))) (kind_at h)) ≡ h
    go true e = sym (eqb-true h 6 e)
    go false e = kind_at-number h l e

-- the numbers that a node was made with
numbers-made : (h : ℕ) (ns : List ℕ) (ts : List Tree) → h < 34 → numbers_fit (node_kind h ns) ns (length ts) ≡ true → node_numbers (node_kind h ns) (root_numbers (make_kind (node_kind h ns) ns ts)) ≡ ns
numbers-made h ns ts l = go (nat_eq h 6)
  where
    plain : (k : RowKind) → kind_symbol k ≡ None → numbers_fit k ns (length ts) ≡ true → node_numbers k (root_numbers (make_kind k ns ts)) ≡ ns
    plain Bound e w = root_numbers-make Bound ns ts w
    plain (Symbol f) e w = cc
    plain (Plain g) e w = root_numbers-make (Plain g) ns ts w
    plain (Binding b) e w = root_numbers-make (Binding b) ns ts w

    go : (b : Bool) → (let k = cond b (Symbol (canon_sym (first ns) (first (after_first ns)))) (kind_at h) in numbers_fit k ns (length ts) ≡ true → node_numbers k (root_numbers (make_kind k ns ts)) ≡ ns)
    go true w = symbol-numbers ns (and_parts (nat_eq (length ns) 2) (nat_eq (length ts) (first (after_first ns))) w).0
    go false w = plain (kind_at h) (kind_at-symbol h l) w

parts-made : (k : RowKind) (ns : List ℕ) (ts : List Tree) → numbers_fit k ns (length ts) ≡ true → subtrees (make_kind k ns ts) ≡ ts
parts-made Bound ns ts w = subtrees-make Bound ns ts w
parts-made (Symbol f) ns ts w = list_of-parts_of ts
parts-made (Plain g) ns ts w = subtrees-make (Plain g) ns ts w
parts-made (Binding b) ns ts w = subtrees-make (Binding b) ns ts w

-- a node made of what the table allows shows it
pub node-shows : (h : ℕ) (ns : List ℕ) (ts : List Tree) → node_fits h ns (length ts) ≡ true → ShowsNode h ns ts (node_make h ns ts)
node-shows h ns ts w =
    let below : h < 34 = let l = node_below h ns (length ts) w in omega arith in
    let fit = node_numbers_fit h ns (length ts) w in
    let kind = kind_of-make (node_kind h ns) ns ts in
    record {
      head_is = ap kind_number kind ∙ kind_number-node h ns below;
      numbers_are = ap (λ k. node_numbers k (root_numbers (node_make h ns ts))) kind ∙ numbers-made h ns ts below fit;
      parts_are = parts-made (node_kind h ns) ns ts fit;
    }

-- a binder's node has a body
pub node-body : (h : ℕ) (ns : List ℕ) (k : ℕ) → node_fits h ns k ≡ true → HasBody (node_kind h ns) k
node-body h ns k w = go (node_kind h ns) (node_numbers_fit h ns k w)
  where
    go : (r : RowKind) → numbers_fit r ns k ≡ true → HasBody r k
    go Bound p = tt
    go (Symbol f) p = tt
    go (Plain g) p = tt
    go (Binding b) p = kind_body (Binding b) ns k p

-- a node over well-formed trees is one
pub node-formed : (h : ℕ) (ns : List ℕ) (ts : List Tree) → node_fits h ns (length ts) ≡ true → are_well_formed (parts_of ts) ≡ true → is_well_formed (node_make h ns ts) ≡ true
node-formed h ns ts w v = go (node_kind h ns) (node_numbers_fit h ns (length ts) w)
  where
    go : (k : RowKind) → numbers_fit k ns (length ts) ≡ true → is_well_formed (make_kind k ns ts) ≡ true
    go Bound p = refl
    go (Symbol f) p = and_from _ _ (rw (size-parts_of ts) (and_parts (nat_eq (length ns) 2) (nat_eq (length ts) f.arity) p).1) v
    go (Plain g) p = formed-make (Plain g) ns ts p v
    go (Binding b) p = formed-make (Binding b) ns ts p v

-- each head number but the temporal mark's is that of a canonical node
canonical_test : ℕ → Bool
canonical_test h = elim (nat_eq h 6) [ true ↦ true | false ↦ is_canonical_kind (kind_at h) ]

canonical_holds : (h : ℕ) → h < 33 → canonical_test h ≡ true
unfolding canonical_test kind_at kind_table
canonical_holds h l = agree_below_at canonical_test (λ _. true) 33 h refl l

canonical-node : (h : ℕ) (ns : List ℕ) → h < 33 → is_canonical_kind (node_kind h ns) ≡ true
unfolding canonical_test
canonical-node h ns l = go (nat_eq h 6) (canonical_holds h l)
  where
    go : (b : Bool) → elim b [ true ↦ true | false ↦ is_canonical_kind (kind_at h) ] ≡ true → is_canonical_kind (cond b (Symbol (canon_sym (first ns) (first (after_first ns)))) (kind_at h)) ≡ true
    go true w = refl
    go false w = w

canonical-front : (ts : List Tree) → are_canonical (parts_of ts) ≡ true → (are_canonical (parts_of (front ts)) ≡ true) × (is_canonical (back ts) ≡ true)
canonical-front [] h = (refl, refl)
canonical-front (t ∷ []) h = (refl, (and_parts (is_canonical t) true h).0)
canonical-front (t ∷ u ∷ ts) h =
    let p = and_parts (is_canonical t) (are_canonical (parts_of (u ∷ ts))) h in let q = canonical-front (u ∷ ts) p.1 in (and_from _ _ p.0 q.0, q.1)

-- a node over canonical trees is canonical
pub node-canonical : (h : ℕ) (ns : List ℕ) (ts : List Tree) → node_fits h ns (length ts) ≡ true → are_canonical (parts_of ts) ≡ true → is_canonical (node_make h ns ts) ≡ true
node-canonical h ns ts w v = go (node_kind h ns) (canonical-node h ns (node_below h ns (length ts) w))
  where
    go : (k : RowKind) → is_canonical_kind k ≡ true → is_canonical (make_kind k ns ts) ≡ true
    go Bound c = refl
    go (Symbol f) c = and_from _ _ c v
    go (Plain g) c = and_from _ _ c v
    go (Binding b) c = let q = canonical-front ts v in and_from _ _ q.0 q.1

-- a node of a canonical expression is the node of a table
canon_kind : (k : SymKind) → is_canon k ≡ true → k ≡ Canon
canon_kind Canon h = refl
canon_kind Constant h = cc
canon_kind State h = cc
canon_kind Primed h = cc
canon_kind Defined h = cc
canon_kind DefinedPrimed h = cc

node_kind-kind : (k : RowKind) (ns : List ℕ) → is_canonical_kind k ≡ true → node_kind (kind_number k) (node_numbers k ns) ≡ k
node_kind-kind k ns = go k
  where
    plain : (k : RowKind) (ms : List ℕ) → kind_symbol k ≡ None → node_kind (kind_number k) ms ≡ k
    plain k ms e =
        let head : is_head (kind_number k) None ≡ true = ap (is_head (kind_number k)) (sym e) ∙ is_head-kind k in
        ap (λ b. cond b (Symbol (canon_sym (first ms) (first (after_first ms)))) (kind_at (kind_number k))) (no_symbol-head (kind_number k) head).1
        ∙ ap (kind_for (kind_number k)) (sym e) ∙ kind_back k

    go : (k : RowKind) → is_canonical_kind k ≡ true → node_kind (kind_number k) (node_numbers k ns) ≡ k
    go Bound c = plain Bound ns refl
    go (Symbol f) c = λ i. Symbol (record { kind = sym (canon_kind f.kind c) i; number = f.number; arity = f.arity })
    go (Plain g) c = plain (Plain g) ns refl
    go (Binding b) c = plain (Binding b) ns refl

make-numbers : (k : RowKind) (ns : List ℕ) (ts : List Tree) → make_kind k (node_numbers k ns) ts ≡ make_kind k ns ts
make-numbers Bound ns ts = refl
make-numbers (Symbol f) ns ts = refl
make-numbers (Plain g) ns ts = refl
make-numbers (Binding b) ns ts = refl

pub row-make : (k : RowKind) (ns : List ℕ) (ts : List Tree) → is_canonical_kind k ≡ true → node_make (kind_number k) (node_numbers k ns) ts ≡ make_kind k ns ts
row-make k ns ts c = ap (λ r. make_kind r (node_numbers k ns) ts) (node_kind-kind k ns c) ∙ make-numbers k ns ts

below_mark : (h : Head) → is_lasting h ≡ true → nat_lt (head_code h) 33 ≡ true
below_mark = elim [ True ↦ λ _. refl | False ↦ λ _. refl | Num ↦ λ _. refl | Str ↦ λ _. refl | Boolean ↦ λ _. refl | Not ↦ λ _. refl | And ↦ λ _. refl | Or ↦ λ _. refl | Imp ↦ λ _. refl | Iff ↦ λ _. refl | Eq ↦ λ _. refl | In ↦ λ _. refl | Subseteq ↦ λ _. refl | Enum ↦ λ _. refl | Cup ↦ λ _. refl | Cap ↦ λ _. refl | Diff ↦ λ _. refl | Power ↦ λ _. refl | Union ↦ λ _. refl | FunSet ↦ λ _. refl | Dom ↦ λ _. refl | Apply ↦ λ _. refl | Except ↦ λ _. refl | Tuple ↦ λ _. refl | If ↦ λ _. refl | Temporal ↦ λ c. cc ]

binder_below_mark : (b : Binder) → nat_lt (binder_code b) 33 ≡ true
binder_below_mark = elim [ All ↦ refl | Ex ↦ refl | Filter ↦ refl | Image ↦ refl | Fun ↦ refl | Choose ↦ refl ]

pub row-fits : (k : RowKind) (ns : List ℕ) (n : ℕ) → is_canonical_kind k ≡ true → kind_fits k ns n ≡ true → node_fits (kind_number k) (node_numbers k ns) n ≡ true
row-fits k ns n c w = and_from _ _ (below k c) (ap (λ r. numbers_fit r (node_numbers k ns) n) (node_kind-kind k ns c) ∙ fit k w)
  where
    below : (k : RowKind) → is_canonical_kind k ≡ true → nat_lt (kind_number k) 33 ≡ true
    below Bound c = refl
    below (Symbol f) c = refl
    below (Plain g) c = below_mark g c
    below (Binding b) c = binder_below_mark b

    fit : (k : RowKind) → kind_fits k ns n ≡ true → numbers_fit k (node_numbers k ns) n ≡ true
    fit Bound w = w
    fit (Symbol f) w = (and_parts (is_empty ns) (nat_eq n f.arity) w).1
    fit (Plain g) w = w
    fit (Binding b) w = w

kind_of-canonical : (t : Tree) → is_canonical t ≡ true → is_canonical_kind (kind_of t) ≡ true
kind_of-canonical (bound i) c = refl
kind_of-canonical (app f ps) c = (and_parts (is_canon f.kind) (are_canonical ps) c).0
kind_of-canonical (node h ns ps) c = (and_parts (is_lasting h) (are_canonical ps) c).0
kind_of-canonical (bind b ps e) c = refl

-- the root of a canonical tree is a node of a table
pub canonical-node_make : (t : Tree) → is_canonical t ≡ true → node_make (kind_number (kind_of t)) (node_numbers (kind_of t) (root_numbers t)) (subtrees t) ≡ t
canonical-node_make t c = row-make (kind_of t) (root_numbers t) (subtrees t) (kind_of-canonical t c) ∙ kind_makes t

pub canonical-node_fits : (t : Tree) → is_well_formed t ≡ true → is_canonical t ≡ true → node_fits (kind_number (kind_of t)) (node_numbers (kind_of t) (root_numbers t)) (length (subtrees t)) ≡ true
canonical-node_fits t w c = row-fits (kind_of t) (root_numbers t) (length (subtrees t)) (kind_of-canonical t c) (kind_fits-shown t w)
