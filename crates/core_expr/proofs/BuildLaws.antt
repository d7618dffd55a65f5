-- The nodes and the spans of a node over its parts.
use Rattle.std.proofs.Common.{◌≡◌, ℕ, suc, ◌+◌, ◌<◌, true, nat_eq, nat_lt, List, [], ◌∷◌, ◌++◌, length, refl, ap, sym, ◌∙◌, arith, append_assoc, append-nil, take, get_or}
use Rattle.std.specs.Prelude.{Result, Ok, Err, IfOk}
use Rattle.std.proofs.lemmas.Grind.{take_at_read}
use Rattle.std.proofs.lemmas.Bool.Decides.{nat_tests}
use Rattle.std.proofs.lemmas.Bool.{and_parts, and_from, eqb-true}
use Rattle.core_expr.specs.declared.head.Head.{Head}
use Rattle.core_expr.specs.declared.head.Binder.{Binder}
use Rattle.core_expr.specs.declared.head.Head.TheVariants.{True, False, Num, Str, Boolean, Not, And, Or, Imp, Iff, Eq, In, Subseteq, Enum, Cup, Cap, Diff, Power, Union, FunSet, Dom, Apply, Except, Tuple, If, Temporal}
use Rattle.core_expr.specs.declared.head.Binder.TheVariants.{All, Ex, Filter, Image, Fun, Choose}
use Rattle.core_expr.specs.declared.row.Row.{Row}
use Rattle.core_expr.specs.declared.row.RowKind.{RowKind}
use Rattle.core_expr.specs.declared.row.RowKind.TheVariants.{Bound, Symbol, Plain, Binding}
use Rattle.core_expr.specs.Tree.{Tree, size}
use Rattle.core_expr.specs.Heads.{kind_fits, plain_fits, is_only, is_empty, is_text, are_bytes, binder_arity, first, kept_numbers, table_numbers, parts_of, list_of, subtrees, front, back, make_kind, is_well_formed, are_well_formed, HasBody}
use Rattle.core_expr.specs.Flat.{row, rows_at, rows_of, all_rows}
use Rattle.core_expr.specs.Spans.{spans_of, nodes_in, spans_in, rows_in, rows_under}
use Rattle.core_expr.proofs.SpanLaws.{spans-subtrees, nodes-subtrees, spans_in-append, length-rows_at}
use Rattle.core_expr.specs.Rows.{raised}
use Rattle.core_expr.specs.Coding.{front-push, back-push}
use Rattle.core_expr.proofs.FlatLaws.{raised-rows_at}

pub list_of-parts_of : (ts : List Tree) → list_of (parts_of ts) ≡ ts
list_of-parts_of [] = refl
list_of-parts_of (t ∷ ts) = ap (λ us. t ∷ us) (list_of-parts_of ts)

pub size-parts_of : (ts : List Tree) → size (parts_of ts) ≡ length ts
size-parts_of [] = refl
size-parts_of (t ∷ ts) = ap suc (size-parts_of ts)

pub front-back : (ts : List Tree) → 0 < length ts → front ts ++ back ts ∷ [] ≡ ts
front-back [] h = absurd (omega arith)
front-back (t ∷ []) h = refl
front-back (t ∷ u ∷ ts) h = ap (λ us. t ∷ us) (front-back (u ∷ ts) (omega arith))

all_rows-parts_of : (ts : List Tree) → all_rows 0 (parts_of ts) ≡ rows_in ts
all_rows-parts_of [] = refl
all_rows-parts_of (t ∷ ts) = ap (λ l. rows_of t ++ l) (all_rows-parts_of ts)

pub rows_in-append : (ts us : List Tree) → rows_in (ts ++ us) ≡ rows_in ts ++ rows_in us
rows_in-append [] us = refl
rows_in-append (t ∷ ts) us = ap (λ l. rows_of t ++ l) (rows_in-append ts us) ∙ sym (append_assoc (rows_of t) (rows_in ts) (rows_in us))

length-front : (ts : List Tree) → 0 < length ts → suc (length (front ts)) ≡ length ts
length-front [] h = absurd (omega arith)
length-front (t ∷ []) h = refl
length-front (t ∷ u ∷ ts) h = ap suc (length-front (u ∷ ts) (omega arith))

pub no_numbers : (ns : List ℕ) → is_empty ns ≡ true → ns ≡ []
no_numbers [] h = refl
no_numbers (n ∷ ns) h = cc

pub only_number : (k : ℕ) (ns : List ℕ) → is_only k ns ≡ true → ns ≡ k ∷ []
only_number k [] h = cc
only_number k (n ∷ ns) h =
    let p = and_parts (nat_eq n k) (is_empty ns) h in λ i. eqb-true n k p.0 i ∷ no_numbers ns p.1 i

pub one_number : (ns : List ℕ) → length ns ≡ 1 → ns ≡ first ns ∷ []
one_number [] h = absurd (omega arith)
one_number (n ∷ []) h = refl
one_number (n ∷ m ∷ ns) h = absurd (omega arith)

no_trees : (ts : List Tree) → length ts ≡ 0 → ts ≡ []
no_trees [] h = refl
no_trees (t ∷ ts) h = absurd (omega arith)

text_numbers : (ns : List ℕ) (k : ℕ) → is_text ns ≡ true → table_numbers Str (kept_numbers Str ns) k ≡ ns
text_numbers [] k h = cc
text_numbers (n ∷ ns) k h = ap (λ m. m ∷ ns) (sym (eqb-true n (length ns) (and_parts (nat_eq n (length ns)) (are_bytes ns) h).0))

-- the table's numbers of a node are what it was made with
pub table-kept : (h : Head) (ns : List ℕ) (k : ℕ) → plain_fits h ns k ≡ true → table_numbers h (kept_numbers h ns) k ≡ ns
table-kept h ns k =
    elim h as (λ h. plain_fits h ns k ≡ true → table_numbers h (kept_numbers h ns) k ≡ ns)
    [ True ↦ λ _. refl | False ↦ λ _. refl | Num ↦ λ _. refl | Str ↦ λ p. text_numbers ns k (and_parts (is_text ns) (nat_eq k 0) p).0 | Boolean ↦ λ _. refl | Not ↦ λ _. refl | And ↦ λ _. refl | Or ↦ λ _. refl | Imp ↦ λ _. refl | Iff ↦ λ _. refl | Eq ↦ λ _. refl | In ↦ λ _. refl | Subseteq ↦ λ _. refl | Enum ↦ λ p. only p | Cup ↦ λ _. refl | Cap ↦ λ _. refl | Diff ↦ λ _. refl | Power ↦ λ _. refl | Union ↦ λ _. refl | FunSet ↦ λ _. refl | Dom ↦ λ _. refl | Apply ↦ λ _. refl | Except ↦ λ _. refl | Tuple ↦ λ p. only p | If ↦ λ _. refl | Temporal ↦ λ _. refl ]
  where
    only : is_only k ns ≡ true → table_numbers Enum (kept_numbers Enum ns) k ≡ ns
    only p = let q = only_number k ns p in ap (λ (l : List ℕ). table_numbers Enum (kept_numbers Enum l) k) q ∙ sym q

positive : (b : Binder) → nat_lt 0 (binder_arity b) ≡ true
positive = elim [ All ↦ refl | Ex ↦ refl | Filter ↦ refl | Image ↦ refl | Fun ↦ refl | Choose ↦ refl ]

-- a binder has a part
pub binding_parts : (b : Binder) (ns : List ℕ) (k : ℕ) → kind_fits (Binding b) ns k ≡ true → 0 < k
binding_parts b ns k h =
    let p = eqb-true k (binder_arity b) (and_parts (is_empty ns) (nat_eq k (binder_arity b)) h).1 in
    let q = positive b in
    grind (arith, nat_tests)

-- the nodes of a node over its parts
pub rows_of-make : (k : RowKind) (ns : List ℕ) (ts : List Tree) → kind_fits k ns (length ts) ≡ true → rows_of (make_kind k ns ts) ≡ rows_under k ts ++ row k ns (length ts) 0 ∷ []
rows_of-make Bound ns ts h =
    let p = and_parts (nat_eq (length ns) 1) (nat_eq (length ts) 0) h in
    let a = one_number ns (eqb-true (length ns) 1 p.0) in
    let b = no_trees ts (eqb-true (length ts) 0 p.1) in
    rw b (ap (λ (l : List ℕ). row Bound l 0 0 ∷ []) (sym a))
rows_of-make (Symbol f) ns ts h =
    let p = and_parts (is_empty ns) (nat_eq (length ts) f.arity) h in
    let a = no_numbers ns p.0 in
    λ i. all_rows-parts_of ts i ++ row (Symbol f) (sym a i) (size-parts_of ts i) 0 ∷ []
rows_of-make (Plain g) ns ts h =
    let a : table_numbers g (kept_numbers g ns) (size (parts_of ts)) ≡ ns = rw (size-parts_of ts) (table-kept g ns (length ts) h) in
    λ i. all_rows-parts_of ts i ++ row (Plain g) (a i) (size-parts_of ts i) 0 ∷ []
rows_of-make (Binding b) ns ts h =
    let p = and_parts (is_empty ns) (nat_eq (length ts) (binder_arity b)) h in
    let a = no_numbers ns p.0 in
    let l : suc (size (parts_of (front ts))) ≡ length ts = ap suc (size-parts_of (front ts)) ∙ length-front ts (binding_parts b ns (length ts) h) in
    (λ i. all_rows-parts_of (front ts) i ++ (rows_at 1 (back ts) ++ row (Binding b) (sym a i) (l i) 0 ∷ [])) ∙ sym (append_assoc (rows_in (front ts)) (rows_at 1 (back ts)) (row (Binding b) ns (length ts) 0 ∷ []))

-- the parts of a node made over parts
pub subtrees-make : (k : RowKind) (ns : List ℕ) (ts : List Tree) → kind_fits k ns (length ts) ≡ true → subtrees (make_kind k ns ts) ≡ ts
subtrees-make Bound ns ts h = sym (no_trees ts (eqb-true (length ts) 0 (and_parts (nat_eq (length ns) 1) (nat_eq (length ts) 0) h).1))
subtrees-make (Symbol f) ns ts h = list_of-parts_of ts
subtrees-make (Plain g) ns ts h = list_of-parts_of ts
subtrees-make (Binding b) ns ts h = rw (list_of-parts_of (front ts)) (front-back ts (binding_parts b ns (length ts) h))

pub spans_of-make : (k : RowKind) (ns : List ℕ) (ts : List Tree) → kind_fits k ns (length ts) ≡ true → spans_of (make_kind k ns ts) ≡ spans_in ts ++ suc (nodes_in ts) ∷ []
spans_of-make k ns ts h =
    spans-subtrees (make_kind k ns ts) ∙ (λ i. spans_in (subtrees-make k ns ts h i) ++ nodes-subtrees (make_kind k ns ts) i ∷ []) ∙ ap (λ us. spans_in ts ++ suc (nodes_in us) ∷ []) (subtrees-make k ns ts h)

formed-front : (ts : List Tree) → are_well_formed (parts_of ts) ≡ true → are_well_formed (parts_of (front ts)) ≡ true
formed-front [] h = refl
formed-front (t ∷ []) h = refl
formed-front (t ∷ u ∷ ts) h = let p = and_parts (is_well_formed t) (are_well_formed (parts_of (u ∷ ts))) h in and_from _ _ p.0 (formed-front (u ∷ ts) p.1)

formed-back : (ts : List Tree) → are_well_formed (parts_of ts) ≡ true → is_well_formed (back ts) ≡ true
formed-back [] h = refl
formed-back (t ∷ []) h = (and_parts (is_well_formed t) true h).0
formed-back (t ∷ u ∷ ts) h = formed-back (u ∷ ts) (and_parts (is_well_formed t) (are_well_formed (parts_of (u ∷ ts))) h).1

pub formed-push : (ts : List Tree) (t : Tree) → are_well_formed (parts_of ts) ≡ true → is_well_formed t ≡ true → are_well_formed (parts_of (ts ++ t ∷ [])) ≡ true
formed-push [] t h k = and_from _ _ k refl
formed-push (u ∷ ts) t h k = let p = and_parts (is_well_formed u) (are_well_formed (parts_of ts)) h in and_from _ _ p.0 (formed-push ts t p.1 k)

-- a node over well-formed parts whose numbers and parts fit
pub formed-make : (k : RowKind) (ns : List ℕ) (ts : List Tree) → kind_fits k ns (length ts) ≡ true → are_well_formed (parts_of ts) ≡ true → is_well_formed (make_kind k ns ts) ≡ true
formed-make Bound ns ts h w = refl
formed-make (Symbol f) ns ts h w =
    and_from _ _ (rw (size-parts_of ts) (and_parts (is_empty ns) (nat_eq (length ts) f.arity) h).1) w
formed-make (Plain g) ns ts h w = and_from _ _ (rw (size-parts_of ts, table-kept g ns (length ts) h) h) w
formed-make (Binding b) ns ts h w =
    let p = and_parts (is_empty ns) (nat_eq (length ts) (binder_arity b)) h in
    let l : size (parts_of (front ts)) + 1 ≡ length ts =
    let m = size-parts_of (front ts) in let n = length-front ts (binding_parts b ns (length ts) h) in omega (arith, m, n) in
    and_from _ _ (rw l p.1) (and_from _ _ (formed-front ts w) (formed-back ts w))

pub rows_in-push : (ts : List Tree) (t : Tree) (rs qs out : List Row) → rs ≡ rows_in ts → qs ≡ rows_of t → out ≡ rs ++ qs → out ≡ rows_in (ts ++ t ∷ [])
rows_in-push ts t rs qs out a b c = c ∙ (λ i. a i ++ b i) ∙ ap (λ l. rows_in ts ++ l) (sym (append-nil (rows_of t))) ∙ sym (rows_in-append ts (t ∷ []))

pub spans_in-push : (ts : List Tree) (t : Tree) (rs qs out : List ℕ) → rs ≡ spans_in ts → qs ≡ spans_of t → out ≡ rs ++ qs → out ≡ spans_in (ts ++ t ∷ [])
spans_in-push ts t rs qs out a b c = c ∙ (λ i. a i ++ b i) ∙ ap (λ l. spans_in ts ++ l) (sym (append-nil (spans_of t))) ∙ sym (spans_in-append ts (t ∷ []))

-- the nodes of some parts and of a body, their last
pub body_rows : (ts all : List Tree) (t : Tree) (rs qs out : List Row) → all ≡ ts ++ t ∷ [] → rs ≡ rows_in ts → qs ≡ rows_of t → out ≡ rs ++ raised 1 qs → out ≡ rows_in (front all) ++ rows_at 1 (back all)
body_rows ts all t rs qs out p a b c =
    rw (p, front-push ts t, back-push ts t) (c ∙ (λ i. a i ++ raised 1 (b i)) ∙ ap (λ l. rows_in ts ++ l) (raised-rows_at 1 0 1 t (omega arith)))

pub made_rows : (k : RowKind) (ns ms : List ℕ) (ts : List Tree) (n : ℕ) (rs out : List Row) → kind_fits k ns (length ts) ≡ true → ms ≡ ns → n ≡ length ts → rs ≡ rows_under k ts → out ≡ rs ++ row k ms n 0 ∷ [] → out ≡ rows_of (make_kind k ns ts)
made_rows k ns ms ts n rs out h a b c d = d ∙ (λ i. c i ++ row k (a i) (b i) 0 ∷ []) ∙ sym (rows_of-make k ns ts h)

pub made_spans : (k : RowKind) (ns : List ℕ) (ts : List Tree) (n : ℕ) (rs : List Row) (ss out : List ℕ) → kind_fits k ns (length ts) ≡ true → rs ≡ rows_of (make_kind k ns ts) → ss ≡ spans_in ts → n ≡ length rs → out ≡ ss ++ n ∷ [] → out ≡ spans_of (make_kind k ns ts)
made_spans k ns ts n rs ss out h a b c d =
    let m : n ≡ suc (nodes_in ts) =
    c ∙ ap length a ∙ length-rows_at 0 (make_kind k ns ts) ∙ nodes-subtrees (make_kind k ns ts) ∙ ap (λ us. suc (nodes_in us)) (subtrees-make k ns ts h)
    in
    d ∙ (λ i. b i ++ m i ∷ []) ∙ sym (spans_of-make k ns ts h)

pub ok_map : {T E : Type 0} (r : Result T E) (P Q : T → Type 0) → ((x : T) → P x → Q x) → IfOk r P → IfOk r Q
ok_map (Ok x) P Q f h = f x h
ok_map (Err e) P Q f h = h

-- a fitting node of a binder has a body
pub kind_body : (k : RowKind) (ns : List ℕ) (n : ℕ) → kind_fits k ns n ≡ true → HasBody k n
kind_body Bound ns n w = tt
kind_body (Symbol g) ns n w = tt
kind_body (Plain g) ns n w = tt
kind_body (Binding b) ns n w = binding_parts b ns n w

are_bytes-append : (bs cs : List ℕ) → are_bytes bs ≡ true → are_bytes cs ≡ true → are_bytes (bs ++ cs) ≡ true
are_bytes-append [] cs h k = k
are_bytes-append (b ∷ bs) cs h k = let p = and_parts (nat_lt b 256) (are_bytes bs) h in and_from _ _ p.0 (are_bytes-append bs cs p.1 k)

-- one more byte of a text
pub text_step : (bs : List ℕ) (i b n : ℕ) (old new : List ℕ) → i < length bs → b ≡ get_or bs i b → b < 256 → (old ≡ n ∷ take i bs) × (are_bytes (take i bs) ≡ true) → new ≡ old ++ b ∷ [] → (new ≡ n ∷ take (i + 1) bs) × (are_bytes (take (i + 1) bs) ≡ true)
text_step bs i b n old new h e l o w =
    let t : take (i + 1) bs ≡ take i bs ++ b ∷ [] = (take_at_read bs i b h).1 ∙ ap (λ x. take i bs ++ x ∷ []) (sym e) in
    let byte : nat_lt b 256 ≡ true = grind (arith, nat_tests) in
    (w ∙ ap (λ ns. ns ++ b ∷ []) o.0 ∙ ap (λ bs. n ∷ bs) (sym t), ap are_bytes t ∙ are_bytes-append (take i bs) (b ∷ []) o.1 (and_from _ _ byte refl))
