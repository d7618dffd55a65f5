-- A tree is stored as its nodes.
use Rattle.std.specs.Prelude.{◌≡◌, ℕ, suc, ◌+◌, List, [], ◌∷◌, ◌++◌, length}
use Rattle.std.proofs.Common.{refl, ap, sym, ◌∙◌, arith, append_assoc, append-nil, zero-add}
use Rattle.std.specs.Coded.{Coded, code_by, coded_list}
use Rattle.core_expr.specs.declared.head.Head.{Head}
use Rattle.core_expr.specs.declared.head.Head.TheVariants.{True, False, Num, Str, Boolean, Not, And, Or, Imp, Iff, Eq, In, Subseteq, Enum, Cup, Cap, Diff, Power, Union, FunSet, Dom, Apply, Except, Tuple, If, Temporal}
use Rattle.core_expr.specs.declared.row.Row.{Row}
use Rattle.core_expr.specs.contracts.row.Row.{the_row}
use Rattle.core_expr.specs.declared.row.RowKind.TheVariants.{Symbol, Plain, Binding}
use Rattle.core_expr.specs.Tree.{Tree, Parts, size}
use Rattle.core_expr.specs.Tree.Tree.{bound, app, node, bind}
use Rattle.core_expr.specs.Tree.Parts.{end, part}
use Rattle.core_expr.specs.Heads.{kept_numbers, table_numbers, parts_of, list_of, front, back}
use Rattle.core_expr.specs.Flat.{row, rows_at, rows_of, all_rows, gather, rest, build, top, tree_of}

-- the trees on the stack, the last uppermost
abbrev pub onto : List Tree → List Tree → List Tree
onto [] st = st
onto (t ∷ ts) st = onto ts (t ∷ st)

pub gather-onto : (ts us st : List Tree) (n : ℕ) → gather (length ts + n) (onto ts st) us ≡ gather n st (ts ++ us)
gather-onto [] us st n = rw zero-add
gather-onto (t ∷ ts) us st n = let q : suc (length ts) + n ≡ length ts + suc n = omega arith in rw q (gather-onto ts us (t ∷ st) (suc n))

pub rest-onto : (ts st : List Tree) (n : ℕ) → rest (length ts + n) (onto ts st) ≡ rest n st
rest-onto [] st n = rw zero-add
rest-onto (t ∷ ts) st n = let q : suc (length ts) + n ≡ length ts + suc n = omega arith in rw q (rest-onto ts (t ∷ st) (suc n))

-- where as many are asked, they are all gathered
pub gather-all : (n : ℕ) (ts us st : List Tree) → n ≡ length ts → gather n (onto ts st) us ≡ ts ++ us
gather-all n ts us st e = let q : n ≡ length ts + 0 = omega (arith, e) in ap (λ k. gather k (onto ts st) us) q ∙ gather-onto ts us st 0

pub rest-all : (n : ℕ) (ts st : List Tree) → n ≡ length ts → rest n (onto ts st) ≡ st
rest-all n ts st e = let q : n ≡ length ts + 0 = omega (arith, e) in ap (λ k. rest k (onto ts st)) q ∙ rest-onto ts st 0

pub parts_of-list_of : (ps : Parts) → parts_of (list_of ps) ≡ ps
parts_of-list_of end = refl
parts_of-list_of (part e ps) = ap (part e) (parts_of-list_of ps)

pub length-list_of : (ps : Parts) → length (list_of ps) ≡ size ps
length-list_of end = refl
length-list_of (part e ps) = ap suc (length-list_of ps)

pub front-push : (ts : List Tree) (t : Tree) → front (ts ++ t ∷ []) ≡ ts
front-push [] t = refl
front-push (u ∷ []) t = refl
front-push (u ∷ v ∷ ts) t = ap (λ us. u ∷ us) (front-push (v ∷ ts) t)

pub back-push : (ts : List Tree) (t : Tree) → back (ts ++ t ∷ []) ≡ t
back-push [] t = refl
back-push (u ∷ []) t = refl
back-push (u ∷ v ∷ ts) t = back-push (v ∷ ts) t

pub kept-table : (h : Head) (ns : List ℕ) (k : ℕ) → kept_numbers h (table_numbers h ns k) ≡ ns
kept-table h ns k =
    elim h as (λ h. kept_numbers h (table_numbers h ns k) ≡ ns)
    [ True ↦ refl | False ↦ refl | Num ↦ refl | Str ↦ refl | Boolean ↦ refl | Not ↦ refl | And ↦ refl | Or ↦ refl | Imp ↦ refl | Iff ↦ refl | Eq ↦ refl | In ↦ refl | Subseteq ↦ refl | Enum ↦ refl | Cup ↦ refl | Cap ↦ refl | Diff ↦ refl | Power ↦ refl | Union ↦ refl | FunSet ↦ refl | Dom ↦ refl | Apply ↦ refl | Except ↦ refl | Tuple ↦ refl | If ↦ refl | Temporal ↦ refl ]

-- the parts are gathered, and stand no longer on the stack
gathered : (ps : Parts) (us st : List Tree) → gather (size ps) (onto (list_of ps) st) us ≡ list_of ps ++ us
gathered ps us st = gather-all (size ps) (list_of ps) us st (sym (length-list_of ps))

left : (ps : Parts) (st : List Tree) → rest (size ps) (onto (list_of ps) st) ≡ st
left ps st = rest-all (size ps) (list_of ps) st (sym (length-list_of ps))

mutual
  pub build-rows_at : (d : ℕ) (t : Tree) (qs : List Row) (st : List Tree) → build (rows_at d t ++ qs) st ≡ build qs (t ∷ st)
  build-rows_at d (bound i) qs st = refl
  build-rows_at d (app f ps) qs st =
      rw (append_assoc, build-all_rows d ps (row (Symbol f) [] (size ps) d ∷ qs) st, gathered ps [] st, left ps st, append-nil, parts_of-list_of ps)
  build-rows_at d (node h ns ps) qs st =
      rw (append_assoc, build-all_rows d ps (row (Plain h) (table_numbers h ns (size ps)) (size ps) d ∷ qs) st, gathered ps [] st, left ps st, append-nil, parts_of-list_of ps, kept-table h ns (size ps))
  build-rows_at d (bind b ps e) qs st =
      rw (append_assoc, build-all_rows d ps ((rows_at (suc d) e ++ row (Binding b) [] (suc (size ps)) d ∷ []) ++ qs) st, append_assoc, build-rows_at (suc d) e (row (Binding b) [] (suc (size ps)) d ∷ qs) (onto (list_of ps) st), gathered ps (e ∷ []) st, left ps st, front-push (list_of ps) e, back-push (list_of ps) e, parts_of-list_of ps)

  pub build-all_rows : (d : ℕ) (ps : Parts) (qs : List Row) (st : List Tree) → build (all_rows d ps ++ qs) st ≡ build qs (onto (list_of ps) st)
  build-all_rows d end qs st = refl
  build-all_rows d (part e ps) qs st = rw (append_assoc, build-rows_at d e (all_rows d ps ++ qs) st) (build-all_rows d ps qs (e ∷ st))

pub tree_of-rows_of : (t : Tree) → tree_of (rows_of t) ≡ t
tree_of-rows_of t = ap (λ rs. top (build rs [])) (sym (append-nil (rows_of t))) ∙ ap top (build-rows_at 0 t [] [])

abbrev pub row_code : Coded Row
row_code = the_row.coded

-- the code of a tree is that of its nodes
abbrev pub tree_code : Coded Tree
tree_code = code_by (List Row) (coded_list row_code) rows_of tree_of tree_of-rows_of
