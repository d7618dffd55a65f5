-- Laws of the nodes of a bank: what they show, what they bind and how far their loose variables go.
use Rattle.std.proofs.Common.{◌≡◌, ℕ, ◌<◌, max, pred, Bool, true, false, cond, nat_eq, List, [], ◌∷◌, length, refl, ap, sym, ◌∙◌, arith}
use Rattle.std.proofs.lemmas.Bool.Decides.{nat_tests}
use Rattle.std.proofs.lemmas.Bool.{and_parts, eqb-true, agree_below_at}
use Rattle.core_expr.specs.declared.row.RowKind.{RowKind}
use Rattle.core_expr.specs.declared.row.RowKind.TheVariants.{Bound, Symbol, Plain, Binding}
use Rattle.core_expr.specs.Tree.{Tree}
use Rattle.core_expr.specs.Loose.{loose, loose_all}
use Rattle.core_expr.specs.Heads.{kind_table, kind_at, first, after_first, parts_of, front, back, make_kind, HasBody}
use Rattle.core_expr.specs.Nodes.{canon_sym, node_kind, numbers_fit, node_fits}
use Rattle.core_expr.proofs.NodeLaws.{node_below, node_numbers_fit, node-body}
use Rattle.term_bank.specs.Loose.{most_loose, binds, is_binder, loose_over}

-- what is told of a kind alone, and is the same of a symbol and of the table's filler, is told by the head number
by-head : {X : Type 0} (f : RowKind → X) (h : ℕ) (ns : List ℕ) → f (kind_at 6) ≡ f (Symbol (canon_sym (first ns) (first (after_first ns)))) → f (kind_at h) ≡ f (node_kind h ns)
by-head f h ns same = go (nat_eq h 6) refl
  where
    go : (b : Bool) → nat_eq h 6 ≡ b → f (kind_at h) ≡ f (cond b (Symbol (canon_sym (first ns) (first (after_first ns)))) (kind_at h))
    go true e = ap (λ n. f (kind_at n)) (eqb-true h 6 e) ∙ same
    go false e = refl

pub binder-kind : (h : ℕ) (ns : List ℕ) → is_binder h ≡ binds (node_kind h ns)
unfolding kind_at kind_table
binder-kind h ns = by-head binds h ns refl

pub loose-head : (h : ℕ) (ns : List ℕ) (ts : List Tree) → loose_over (kind_at h) ns ts ≡ loose_over (node_kind h ns) ns ts
unfolding kind_at kind_table
loose-head h ns ts = by-head (λ k. loose_over k ns ts) h ns refl

pub loose_all-parts_of : (ts : List Tree) → loose_all (parts_of ts) ≡ most_loose ts
loose_all-parts_of [] = refl
loose_all-parts_of (t ∷ ts) = ap (max (loose t)) (loose_all-parts_of ts)

pub loose-made : (k : RowKind) (ns : List ℕ) (ts : List Tree) → loose (make_kind k ns ts) ≡ loose_over k ns ts
loose-made Bound ns ts = refl
loose-made (Symbol f) ns ts = loose_all-parts_of ts
loose-made (Plain g) ns ts = loose_all-parts_of ts
loose-made (Binding b) ns ts = ap (λ n. max n (pred (loose (back ts)))) (loose_all-parts_of (front ts))

-- a binder has a body, a variable an index
pub binder_parts : (h : ℕ) (ns : List ℕ) (k : ℕ) → node_fits h ns k ≡ true → is_binder h ≡ true → 0 < k
binder_parts h ns k w b = go (node_kind h ns) (sym (binder-kind h ns) ∙ b) (node-body h ns k w)
  where
    go : (r : RowKind) → binds r ≡ true → HasBody r k → 0 < k
    go Bound e a = cc
    go (Symbol f) e a = cc
    go (Plain g) e a = cc
    go (Binding g) e a = a

-- a variable
abbrev pub is_variable : RowKind → Bool
is_variable Bound = true
is_variable k = false

pub variable-kind : (h : ℕ) (ns : List ℕ) → h ≡ 5 → node_kind h ns ≡ Bound
unfolding kind_at kind_table
variable-kind h ns e = ap (λ g. node_kind g ns) e

pub variable_numbers : (h : ℕ) (ns : List ℕ) (k : ℕ) → node_fits h ns k ≡ true → kind_at h ≡ Bound → 0 < length ns
unfolding kind_at kind_table
variable_numbers h ns k w e =
    let v : is_variable (node_kind h ns) ≡ true = sym (by-head is_variable h ns refl) ∙ ap is_variable e in
    go (node_kind h ns) v (node_numbers_fit h ns k w)
  where
    go : (r : RowKind) → is_variable r ≡ true → numbers_fit r ns k ≡ true → 0 < length ns
    go Bound v f = let g : nat_eq (length ns) 1 ≡ true = (and_parts (nat_eq (length ns) 1) (nat_eq k 0) f).0 in grind (arith, nat_tests)
    go (Symbol f) v w = cc
    go (Plain g) v w = cc
    go (Binding b) v w = cc

variable_table : (h : ℕ) → h < 33 → is_variable (kind_at h) ≡ nat_eq h 5
unfolding kind_at kind_table
variable_table h l = agree_below_at (λ h. is_variable (kind_at h)) (λ h. nat_eq h 5) 33 h refl l

pub variable-node : (h : ℕ) (ns : List ℕ) (k : ℕ) → node_fits h ns k ≡ true → nat_eq h 5 ≡ false → is_variable (node_kind h ns) ≡ false
unfolding kind_at kind_table
variable-node h ns k w v = sym (by-head is_variable h ns refl) ∙ variable_table h (node_below h ns k w) ∙ v
