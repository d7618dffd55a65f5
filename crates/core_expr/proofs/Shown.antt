-- What a tree shows, and what it is made of.
use Rattle.std.proofs.Common.{◌≡◌, ℕ, ◌+◌, ◌<◌, Bool, true, false, ◌&&◌, nat_eq, nat_lt, Option, Some, None, List, [], ◌∷◌, ◌++◌, length, refl, ap, sym, ◌∙◌, arith, length-append}
use Rattle.std.proofs.lemmas.Bool.Decides.{nat_tests}
use Rattle.std.proofs.lemmas.Bool.{and_parts, and_from, eqb-true, agree_below_at}
use Rattle.core_expr.specs.declared.head.Sym.{Sym}
use Rattle.core_expr.specs.declared.head.Head.{Head}
use Rattle.core_expr.specs.declared.head.Binder.{Binder}
use Rattle.core_expr.specs.declared.head.Head.TheVariants.{True, False, Num, Str, Boolean, Not, And, Or, Imp, Iff, Eq, In, Subseteq, Enum, Cup, Cap, Diff, Power, Union, FunSet, Dom, Apply, Except, Tuple, If, Temporal}
use Rattle.core_expr.specs.declared.head.Binder.TheVariants.{All, Ex, Filter, Image, Fun, Choose}
use Rattle.core_expr.specs.declared.row.RowKind.{RowKind}
use Rattle.core_expr.specs.declared.row.RowKind.TheVariants.{Bound, Symbol, Plain, Binding}
use Rattle.core_expr.specs.Tree.{Tree, Parts, size}
use Rattle.core_expr.specs.Tree.Tree.{bound, app, node, bind}
use Rattle.core_expr.specs.Terms.{head_code, binder_code}
use Rattle.core_expr.specs.Heads.{kind_table, kind_at, kind_for, kind_number, kind_symbol, kind_fits, plain_fits, is_head, is_empty, fits, table_numbers, binder_arity, parts_of, list_of, subtrees, make_kind, make, is_well_formed, are_well_formed}
use Rattle.core_expr.specs.Places.{kind_of, root_numbers}
use Rattle.core_expr.specs.Laws.{Shows}
use Rattle.core_expr.specs.Coding.{kept-table, parts_of-list_of, length-list_of, front-push, back-push}
use Rattle.core_expr.proofs.BuildLaws.{size-parts_of, table-kept, subtrees-make, formed-make, no_numbers, one_number}

pub kind_of-make : (k : RowKind) (ns : List ℕ) (ts : List Tree) → kind_of (make_kind k ns ts) ≡ k
kind_of-make Bound ns ts = refl
kind_of-make (Symbol f) ns ts = refl
kind_of-make (Plain h) ns ts = refl
kind_of-make (Binding b) ns ts = refl

pub root_numbers-make : (k : RowKind) (ns : List ℕ) (ts : List Tree) → kind_fits k ns (length ts) ≡ true → root_numbers (make_kind k ns ts) ≡ ns
root_numbers-make Bound ns ts h = sym (one_number ns (eqb-true (length ns) 1 (and_parts (nat_eq (length ns) 1) (nat_eq (length ts) 0) h).0))
root_numbers-make (Symbol f) ns ts h = sym (no_numbers ns (and_parts (is_empty ns) (nat_eq (length ts) f.arity) h).0)
root_numbers-make (Plain g) ns ts h = rw (size-parts_of ts) (table-kept g ns (length ts) h)
root_numbers-make (Binding b) ns ts h = sym (no_numbers ns (and_parts (is_empty ns) (nat_eq (length ts) (binder_arity b)) h).0)

-- each head number but that of symbols is that of its kind
table_test : ℕ → Bool
table_test h = elim (nat_eq h 6) [ true ↦ true | false ↦ nat_eq (kind_number (kind_at h)) h ]

table_holds : (h : ℕ) → h < 34 → table_test h ≡ true
unfolding table_test kind_at kind_table
table_holds h l = agree_below_at table_test (λ _. true) 34 h refl l

-- a head number of no symbol has a kind with no symbol
symbol_test : RowKind → Bool
symbol_test Bound = true
symbol_test (Symbol f) = false
symbol_test (Plain h) = true
symbol_test (Binding b) = true

plain_holds : (h : ℕ) → h < 34 → symbol_test (kind_at h) ≡ true
unfolding symbol_test kind_at kind_table
plain_holds h l = agree_below_at (λ h. symbol_test (kind_at h)) (λ _. true) 34 h refl l

no_symbol : (k : RowKind) → symbol_test k ≡ true → kind_symbol k ≡ None
unfolding symbol_test
no_symbol Bound h = refl
no_symbol (Symbol f) h = cc
no_symbol (Plain g) h = refl
no_symbol (Binding b) h = refl

pub kind_at-number : (h : ℕ) → h < 34 → nat_eq h 6 ≡ false → kind_number (kind_at h) ≡ h
unfolding table_test
kind_at-number h l e = eqb-true (kind_number (kind_at h)) h (ap (λ b. elim b as (λ _. Bool) [ true ↦ true | false ↦ nat_eq (kind_number (kind_at h)) h ]) (sym e) ∙ table_holds h l)

pub kind_at-symbol : (h : ℕ) → h < 34 → kind_symbol (kind_at h) ≡ None
kind_at-symbol h l = no_symbol (kind_at h) (plain_holds h l)

-- a head number of the table that is no symbol's
pub no_symbol-head : (h : ℕ) → is_head h None ≡ true → (h < 34) × (nat_eq h 6 ≡ false)
no_symbol-head h p =
    let q = and_parts (nat_lt h 34) (elim (nat_eq h 6) [ true ↦ false | false ↦ true ]) p in
    (let m : nat_lt h 34 ≡ true = q.0 in grind (arith, nat_tests), go (nat_eq h 6) refl q.1)
  where
    go : (b : Bool) → nat_eq h 6 ≡ b → elim b [ true ↦ false | false ↦ true ] ≡ true → nat_eq h 6 ≡ false
    go true e x = cc
    go false e x = e

number-of : (h : ℕ) (f : Option Sym) → is_head h f ≡ true → kind_number (kind_for h f) ≡ h
number-of h (Some f) p = sym (eqb-true h 6 p)
number-of h None p = let q = no_symbol-head h p in kind_at-number h q.0 q.1

symbol-of : (h : ℕ) (f : Option Sym) → is_head h f ≡ true → kind_symbol (kind_for h f) ≡ f
symbol-of h (Some f) p = refl
symbol-of h None p = kind_at-symbol h (no_symbol-head h p).0

pub made-shows : (h : ℕ) (f : Option Sym) (ns : List ℕ) (ts : List Tree) → fits h f ns (length ts) ≡ true → Shows h f ns ts (make h f ns ts)
made-shows h f ns ts w =
    let p = and_parts (is_head h f) (kind_fits (kind_for h f) ns (length ts)) w in
    record {
      head_is = ap kind_number (kind_of-make (kind_for h f) ns ts) ∙ number-of h f p.0;
      symbol_is = ap kind_symbol (kind_of-make (kind_for h f) ns ts) ∙ symbol-of h f p.0;
      numbers_are = root_numbers-make (kind_for h f) ns ts p.1;
      parts_are = subtrees-make (kind_for h f) ns ts p.1;
    }

pub made-formed : (h : ℕ) (f : Option Sym) (ns : List ℕ) (ts : List Tree) → fits h f ns (length ts) ≡ true → are_well_formed (parts_of ts) ≡ true → is_well_formed (make h f ns ts) ≡ true
made-formed h f ns ts w v = formed-make (kind_for h f) ns ts (and_parts (is_head h f) (kind_fits (kind_for h f) ns (length ts)) w).1 v

-- back
head_kind : (h : Head) → kind_at (head_code h) ≡ Plain h
unfolding kind_at kind_table
head_kind = elim [ True ↦ refl | False ↦ refl | Num ↦ refl | Str ↦ refl | Boolean ↦ refl | Not ↦ refl | And ↦ refl | Or ↦ refl | Imp ↦ refl | Iff ↦ refl | Eq ↦ refl | In ↦ refl | Subseteq ↦ refl | Enum ↦ refl | Cup ↦ refl | Cap ↦ refl | Diff ↦ refl | Power ↦ refl | Union ↦ refl | FunSet ↦ refl | Dom ↦ refl | Apply ↦ refl | Except ↦ refl | Tuple ↦ refl | If ↦ refl | Temporal ↦ refl ]

binder_kind : (b : Binder) → kind_at (binder_code b) ≡ Binding b
unfolding kind_at kind_table
binder_kind = elim [ All ↦ refl | Ex ↦ refl | Filter ↦ refl | Image ↦ refl | Fun ↦ refl | Choose ↦ refl ]

bound_kind : kind_at 5 ≡ Bound
unfolding kind_at kind_table
bound_kind = refl

pub kind_back : (k : RowKind) → kind_for (kind_number k) (kind_symbol k) ≡ k
kind_back Bound = bound_kind
kind_back (Symbol f) = refl
kind_back (Plain h) = head_kind h
kind_back (Binding b) = binder_kind b

pub kind_makes : (t : Tree) → make_kind (kind_of t) (root_numbers t) (subtrees t) ≡ t
kind_makes (bound i) = refl
kind_makes (app f ps) = ap (app f) (parts_of-list_of ps)
kind_makes (node h ns ps) = λ i. node h (kept-table h ns (size ps) i) (parts_of-list_of ps i)
kind_makes (bind b ps e) = (λ i. bind b (parts_of (front-push (list_of ps) e i)) (back-push (list_of ps) e i)) ∙ ap (λ (qs : Parts). bind b qs e) (parts_of-list_of ps)

pub shown-makes : (t : Tree) → make (kind_number (kind_of t)) (kind_symbol (kind_of t)) (root_numbers t) (subtrees t) ≡ t
shown-makes t = ap (λ k. make_kind k (root_numbers t) (subtrees t)) (kind_back (kind_of t)) ∙ kind_makes t

head_below : (h : Head) → is_head (head_code h) None ≡ true
head_below = elim [ True ↦ refl | False ↦ refl | Num ↦ refl | Str ↦ refl | Boolean ↦ refl | Not ↦ refl | And ↦ refl | Or ↦ refl | Imp ↦ refl | Iff ↦ refl | Eq ↦ refl | In ↦ refl | Subseteq ↦ refl | Enum ↦ refl | Cup ↦ refl | Cap ↦ refl | Diff ↦ refl | Power ↦ refl | Union ↦ refl | FunSet ↦ refl | Dom ↦ refl | Apply ↦ refl | Except ↦ refl | Tuple ↦ refl | If ↦ refl | Temporal ↦ refl ]

binder_below : (b : Binder) → is_head (binder_code b) None ≡ true
binder_below = elim [ All ↦ refl | Ex ↦ refl | Filter ↦ refl | Image ↦ refl | Fun ↦ refl | Choose ↦ refl ]

pub is_head-kind : (k : RowKind) → is_head (kind_number k) (kind_symbol k) ≡ true
is_head-kind Bound = refl
is_head-kind (Symbol f) = refl
is_head-kind (Plain h) = head_below h
is_head-kind (Binding b) = binder_below b

pub kind_fits-shown : (t : Tree) → is_well_formed t ≡ true → kind_fits (kind_of t) (root_numbers t) (length (subtrees t)) ≡ true
kind_fits-shown (bound i) h = refl
kind_fits-shown (app f ps) h = rw (length-list_of ps) ((and_parts (nat_eq (size ps) f.arity) (are_well_formed ps) h).0)
kind_fits-shown (node g ns ps) h = rw (length-list_of ps) ((and_parts (plain_fits g (table_numbers g ns (size ps)) (size ps)) (are_well_formed ps) h).0)
kind_fits-shown (bind b ps e) h =
    let l : length (list_of ps ++ e ∷ []) ≡ size ps + 1 = let m = length-list_of ps in let n = length-append (list_of ps) (e ∷ []) in omega (arith, m, n) in
    rw l ((and_parts (nat_eq (size ps + 1) (binder_arity b)) (are_well_formed ps && is_well_formed e) h).0)

pub shown-fits : (t : Tree) → is_well_formed t ≡ true → fits (kind_number (kind_of t)) (kind_symbol (kind_of t)) (root_numbers t) (length (subtrees t)) ≡ true
shown-fits t h = and_from _ _ (is_head-kind (kind_of t)) (rw (kind_back (kind_of t)) (kind_fits-shown t h))
