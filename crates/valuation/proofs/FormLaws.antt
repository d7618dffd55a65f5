-- A formula is propositional where its nodes are.
use Rattle.std.proofs.Common.{◌≡◌, ℕ, suc, ◌+◌, ◌<◌, ◌≤◌, Bool, true, false, ◌&&◌, List, [], ◌∷◌, ◌++◌, length, drop, refl, ap, sym, ◌∙◌, append_assoc, arith}
use Rattle.std.specs.List.{list_all}
use Rattle.std.proofs.lemmas.Bool.{and_parts}
use Rattle.std.proofs.lemmas.List.Folds.{list_all-append}
use Rattle.std.proofs.lemmas.List.{drop_all}
use Rattle.std.proofs.Math.Seq.{drop-cons}
use Rattle.core_expr.specs.declared.head.Head.{Head}
use Rattle.core_expr.specs.declared.head.Head.TheVariants.{True, False, Not, And, Or, Imp, Iff}
use Rattle.core_expr.specs.declared.row.Row.{Row}
use Rattle.core_expr.specs.declared.row.RowKind.TheVariants.{Bound, Symbol, Plain, Binding}
use Rattle.core_expr.specs.Tree.{Tree, Parts, size}
use Rattle.core_expr.specs.Tree.Tree.{bound, app, node, bind}
use Rattle.core_expr.specs.Tree.Parts.{end, part}
use Rattle.core_expr.specs.Heads.{plain_fits, table_numbers, is_well_formed, are_well_formed}
use Rattle.core_expr.specs.Flat.{row, rows_at, all_rows, rows_of, row_at}
use Rattle.valuation.specs.Truth.{both, is_propositional}
use Rattle.valuation.specs.Forms.{is_connective}
use Rattle.valuation.proofs.TruthLaws.{some-part, over-none, over-one, over-two}

abbrev pub stands : Row → Bool
stands r = is_connective r.kind r.parts

-- all nodes, and then a last one
last-node : (rs : List Row) (r : Row) → list_all stands (rs ++ r ∷ []) ≡ (list_all stands rs && stands r)
last-node rs r = list_all-append stands rs (r ∷ []) ∙ ap (λ b. list_all stands rs && b) (and-true (stands r))
  where
    and-true : (b : Bool) → (b && true) ≡ b
    and-true true = refl
    and-true false = refl

none-stands : (b : Bool) → (b && false) ≡ false
none-stands true = refl
none-stands false = refl

one-part : (b : Bool) → ((b && true) && true) ≡ b
one-part true = refl
one-part false = refl

two-parts : (b c : Bool) → ((b && (c && true)) && true) ≡ both b c
two-parts true true = refl
two-parts true false = refl
two-parts false c = refl

-- the nodes of two parts
binary : (d : ℕ) (a b : Tree) → list_all stands (rows_at d a) ≡ is_propositional a → list_all stands (rows_at d b) ≡ is_propositional b
    → (list_all stands (all_rows d (part a (part b end))) && true) ≡ both (is_propositional a) (is_propositional b)
binary d a b x y =
    ap (λ l. l && true) (list_all-append stands (rows_at d a) (all_rows d (part b end)) ∙ ap (λ l. list_all stands (rows_at d a) && l) (list_all-append stands (rows_at d b) []))
    ∙ (λ i. (x i && (y i && true)) && true) ∙ two-parts (is_propositional a) (is_propositional b)

mutual
  pub nodes-tell : (d : ℕ) (t : Tree) → is_well_formed t ≡ true → list_all stands (rows_at d t) ≡ is_propositional t
  nodes-tell d (bound i) w = refl
  nodes-tell d (app f end) w = refl
  nodes-tell d (app f (part e ps)) w = last-node (all_rows d (part e ps)) (row (Symbol f) [] (suc (size ps)) d) ∙ ap (λ b. list_all stands (all_rows d (part e ps)) && b) (some-part (size ps)) ∙ none-stands (list_all stands (all_rows d (part e ps)))
  nodes-tell d (node h ns ps) w = let v = and_parts (plain_fits h (table_numbers h ns (size ps)) (size ps)) (are_well_formed ps) w in last-node (all_rows d ps) (row (Plain h) (table_numbers h ns (size ps)) (size ps) d) ∙ of-head d h ns ps v.0 v.1
  nodes-tell d (bind b ps e) w =
      ap (list_all stands) (sym (append_assoc (all_rows d ps) (rows_at (suc d) e) (row (Binding b) [] (suc (size ps)) d ∷ [])))
      ∙ last-node (all_rows d ps ++ rows_at (suc d) e) (row (Binding b) [] (suc (size ps)) d) ∙ none-stands (list_all stands (all_rows d ps ++ rows_at (suc d) e))

  -- the parts of a node, and the node itself
  of-head : (d : ℕ) (h : Head) (ns : List ℕ) (ps : Parts) → plain_fits h (table_numbers h ns (size ps)) (size ps) ≡ true → are_well_formed ps ≡ true
      → (list_all stands (all_rows d ps) && stands (row (Plain h) (table_numbers h ns (size ps)) (size ps) d)) ≡ is_propositional (node h ns ps)
  of-head d True [] end f w = refl
  of-head d True [] (part e ps) f w = absurd (over-none (size ps) f)
  of-head d True (n ∷ ns) ps f w = cc
  of-head d False [] end f w = refl
  of-head d False [] (part e ps) f w = absurd (over-none (size ps) f)
  of-head d False (n ∷ ns) ps f w = cc
  of-head d Not [] (part a end) f w =
      let v = and_parts (is_well_formed a) true w in
      ap (λ b. b && true) (list_all-append stands (rows_at d a) []) ∙ ap (λ b. (b && true) && true) (nodes-tell d a v.0) ∙ one-part (is_propositional a)
  of-head d Not [] end f w = cc
  of-head d Not [] (part a (part b ps)) f w = absurd (over-one (size ps) f)
  of-head d Not (n ∷ ns) ps f w = cc
  of-head d And [] (part a (part b end)) f w = (let v = and_parts (is_well_formed a) (is_well_formed b && true) w in let u = and_parts (is_well_formed b) true v.1 in binary d a b (nodes-tell d a v.0) (nodes-tell d b u.0))
  of-head d And [] end f w = cc
  of-head d And [] (part a end) f w = cc
  of-head d And [] (part a (part b (part c ps))) f w = absurd (over-two (size ps) f)
  of-head d And (n ∷ ns) ps f w = cc
  of-head d Or [] (part a (part b end)) f w = (let v = and_parts (is_well_formed a) (is_well_formed b && true) w in let u = and_parts (is_well_formed b) true v.1 in binary d a b (nodes-tell d a v.0) (nodes-tell d b u.0))
  of-head d Or [] end f w = cc
  of-head d Or [] (part a end) f w = cc
  of-head d Or [] (part a (part b (part c ps))) f w = absurd (over-two (size ps) f)
  of-head d Or (n ∷ ns) ps f w = cc
  of-head d Imp [] (part a (part b end)) f w = (let v = and_parts (is_well_formed a) (is_well_formed b && true) w in let u = and_parts (is_well_formed b) true v.1 in binary d a b (nodes-tell d a v.0) (nodes-tell d b u.0))
  of-head d Imp [] end f w = cc
  of-head d Imp [] (part a end) f w = cc
  of-head d Imp [] (part a (part b (part c ps))) f w = absurd (over-two (size ps) f)
  of-head d Imp (n ∷ ns) ps f w = cc
  of-head d Iff [] (part a (part b end)) f w = (let v = and_parts (is_well_formed a) (is_well_formed b && true) w in let u = and_parts (is_well_formed b) true v.1 in binary d a b (nodes-tell d a v.0) (nodes-tell d b u.0))
  of-head d Iff [] end f w = cc
  of-head d Iff [] (part a end) f w = cc
  of-head d Iff [] (part a (part b (part c ps))) f w = absurd (over-two (size ps) f)
  of-head d Iff (n ∷ ns) ps f w = cc
  of-head d h ns ps f w = none-stands (list_all stands (all_rows d ps))

-- one node after another
from-node : (t : Tree) (i : ℕ) (b : Bool) → i < length (rows_of t) → is_connective (row_at t i).kind (row_at t i).parts ≡ b → list_all stands (drop i (rows_of t)) ≡ (b && list_all stands (drop (i + 1) (rows_of t)))
from-node t i b h f =
    let next : suc i ≡ i + 1 = omega arith in
    ap (list_all stands) (drop-cons (rows_of t) i (row Bound (0 ∷ []) 0 0) h) ∙ (λ j. f j && list_all stands (drop (next j) (rows_of t)))

pub node-fails : (t : Tree) (i : ℕ) → i < length (rows_of t) → list_all stands (drop i (rows_of t)) ≡ list_all stands (rows_of t)
    → is_connective (row_at t i).kind (row_at t i).parts ≡ false → is_well_formed t ≡ true → is_propositional t ≡ false
node-fails t i h e f w = sym (nodes-tell 0 t w) ∙ sym e ∙ from-node t i false h f

pub node-passes : (t : Tree) (i : ℕ) → i < length (rows_of t) → list_all stands (drop i (rows_of t)) ≡ list_all stands (rows_of t)
    → is_connective (row_at t i).kind (row_at t i).parts ≡ true → list_all stands (drop (i + 1) (rows_of t)) ≡ list_all stands (rows_of t)
node-passes t i h e f = sym (from-node t i true h f) ∙ e

pub all-passed : (t : Tree) (i : ℕ) → length (rows_of t) ≤ i → list_all stands (drop i (rows_of t)) ≡ list_all stands (rows_of t) → is_well_formed t ≡ true → is_propositional t ≡ true
all-passed t i h e w = sym (nodes-tell 0 t w) ∙ sym e ∙ ap (list_all stands) (drop_all i (rows_of t) h)
