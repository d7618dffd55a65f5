-- The patterns are the schemas.
use Rattle.std.proofs.Common.{◌≡◌, ℕ, zero, suc, ◌+◌, ◌-◌, ◌<◌, true, nat_eq, Option, Some, None, List, [], ◌∷◌, length, get_or, map, take, drop, refl, ap, sym, ◌∙◌, arith, subst}
use Rattle.std.proofs.lemmas.Bool.{agree_below_at}
use Rattle.std.proofs.lemmas.Bool.Decides.{nat_tests}
use Rattle.std.proofs.lemmas.List.{get_or-map, get_or-take, get_or-drop}
use Rattle.core_expr.specs.Tree.{Tree, eq_, in_, and_, imp_, iff_, if_, apply_, all_, ex_, fun_, dom_, funset_, union_, image_, except_, subseteq_}
use Rattle.core_expr.specs.Tree.Tree.{bound}
use Rattle.core_expr.specs.Put.{IsScoped, shift}
use Rattle.core_expr.specs.Heads.{kind_at, kind_table}
use Rattle.core_expr.proofs.Laws.{shift_closed}
use Rattle.seq_calculus.specs.Schemas.{Row, no_row, rows, row_at, instance_of, unnumbered, of_one, of_two, of_three, of_four, about_boolean, about_choice, about_power, about_union, about_subset, about_extensionality, about_domain, about_cup, about_cap, about_difference, about_filter, about_image, about_then, about_otherwise, about_application, about_function_set, about_except, about_functions}
use Rattle.proof_checker.specs.Schemas.{Pattern, pattern_at, IsOpen, subject_in, formula_in, IsProper, HasPattern, IsInstance}

-- the schemas that have patterns, by how many parameters they have
data OfOne : Type 0 where
  Boolean Choice : OfOne

data OfTwo : Type 0 where
  Power Union Subset Extensionality Domain : OfTwo

data OfThree : Type 0 where
  Cup Cap Difference Filter Image Then Otherwise Application FunctionSet Except : OfThree

data Schema : Type 0 where
  One : OfOne → Schema
  Two : OfTwo → Schema
  Three : OfThree → Schema
  FunctionEquality : Schema

abbrev schemas : List Schema
schemas = Three Cup ∷ Three Cap ∷ Three Difference ∷ Two Power ∷ Two Union ∷ Three Filter ∷ Three Image ∷ One Boolean ∷ Two Subset ∷ Two Extensionality ∷ One Choice ∷ Three Then ∷ Three Otherwise ∷ Two Domain ∷ Three Application ∷ FunctionEquality ∷ Three FunctionSet ∷ Three Except ∷ []

abbrev formula_of_one : OfOne → Tree → Tree
formula_of_one Boolean = about_boolean
formula_of_one Choice = about_choice

abbrev formula_of_two : OfTwo → Tree → Tree → Tree
formula_of_two Power = about_power
formula_of_two Union = about_union
formula_of_two Subset = about_subset
formula_of_two Extensionality = about_extensionality
formula_of_two Domain = about_domain

abbrev formula_of_three : OfThree → Tree → Tree → Tree → Tree
formula_of_three Cup = about_cup
formula_of_three Cap = about_cap
formula_of_three Difference = about_difference
formula_of_three Filter = about_filter
formula_of_three Image = about_image
formula_of_three Then = about_then
formula_of_three Otherwise = about_otherwise
formula_of_three Application = about_application
formula_of_three FunctionSet = about_function_set
formula_of_three Except = about_except

abbrev row_of : Schema → Row
row_of (One s) = unnumbered (of_one (formula_of_one s))
row_of (Two s) = unnumbered (of_two (formula_of_two s))
row_of (Three s) = unnumbered (of_three (formula_of_three s))
row_of FunctionEquality = unnumbered (of_four about_functions)

abbrev pattern_of : Schema → Pattern
pattern_of (Three Cup) = pattern_at 0
pattern_of (Three Cap) = pattern_at 1
pattern_of (Three Difference) = pattern_at 2
pattern_of (Two Power) = pattern_at 3
pattern_of (Two Union) = pattern_at 4
pattern_of (Three Filter) = pattern_at 5
pattern_of (Three Image) = pattern_at 6
pattern_of (One Boolean) = pattern_at 7
pattern_of (Two Subset) = pattern_at 8
pattern_of (Two Extensionality) = pattern_at 9
pattern_of (One Choice) = pattern_at 10
pattern_of (Three Then) = pattern_at 11
pattern_of (Three Otherwise) = pattern_at 12
pattern_of (Two Domain) = pattern_at 13
pattern_of (Three Application) = pattern_at 14
pattern_of FunctionEquality = pattern_at 15
pattern_of (Three FunctionSet) = pattern_at 16
pattern_of (Three Except) = pattern_at 17

abbrev Moved : Tree → Type 0
Moved e = shift 0 1 e ≡ e

moved : (e : Tree) → IsScoped 0 e → Moved e
moved e h = shift_closed 0 0 1 e (omega arith) h

-- a formula is that of its pattern
one_to : (s : OfOne) (a : Tree) → IsScoped 0 (subject_in (pattern_of (One s)) (a ∷ [])) → formula_of_one s a ≡ formula_in (pattern_of (One s)) (a ∷ [])
unfolding kind_at kind_table
one_to Boolean a h = refl
one_to Choice a h = refl

two_to : (s : OfTwo) (a b : Tree) → IsScoped 0 (subject_in (pattern_of (Two s)) (a ∷ b ∷ [])) → formula_of_two s a b ≡ formula_in (pattern_of (Two s)) (a ∷ b ∷ [])
unfolding kind_at kind_table
two_to Power t a h = refl
two_to Union t a h = let x : Moved t = moved t h.0 in let y : Moved a = moved a h.1.0.0 in λ i. iff_ (in_ t (union_ a)) (ex_ (and_ (in_ (bound 0) (y i)) (in_ (x i) (bound 0))))
two_to Subset a b h = let x : Moved a = moved a h.0 in let y : Moved b = moved b h.1.0 in λ i. iff_ (subseteq_ a b) (all_ (imp_ (in_ (bound 0) (x i)) (in_ (bound 0) (y i))))
two_to Extensionality a b h = let x : Moved a = moved a h.0 in let y : Moved b = moved b h.1.0 in λ i. imp_ (all_ (iff_ (in_ (bound 0) (x i)) (in_ (bound 0) (y i)))) (eq_ a b)
two_to Domain s e h = refl

three_to : (s : OfThree) (a b c : Tree) → IsScoped 0 (subject_in (pattern_of (Three s)) (a ∷ b ∷ c ∷ [])) → formula_of_three s a b c ≡ formula_in (pattern_of (Three s)) (a ∷ b ∷ c ∷ [])
unfolding kind_at kind_table
three_to Cup a b c h = refl
three_to Cap a b c h = refl
three_to Difference a b c h = refl
three_to Filter a b c h = refl
three_to Image t a e h = let x : Moved t = moved t h.0 in let y : Moved a = moved a h.1.0.0.0 in λ i. iff_ (in_ t (image_ a e)) (ex_ (and_ (in_ (bound 0) (y i)) (eq_ (x i) e)))
three_to Then a b c h = refl
three_to Otherwise a b c h = refl
three_to Application a b c h = refl
three_to FunctionSet f s t h =
    let x : Moved f = moved f h.0 in
    let y : Moved s = moved s h.1.0.0 in
    let z : Moved t = moved t h.1.0.1.0 in
    λ i. iff_ (in_ f (funset_ s t)) (and_ (eq_ f (fun_ s (apply_ (x i) (bound 0)))) (all_ (imp_ (in_ (bound 0) (y i)) (in_ (apply_ (x i) (bound 0)) (z i)))))
three_to Except f a b h =
    let x : Moved f = moved f h.0 in
    let y : Moved a = moved a h.1.0 in
    let z : Moved b = moved b h.1.1.0 in
    λ i. eq_ (except_ f a b) (fun_ (dom_ f) (if_ (eq_ (bound 0) (y i)) (z i) (apply_ (x i) (bound 0))))

functions_to : (s d t e : Tree) → IsScoped 0 (subject_in (pattern_of FunctionEquality) (s ∷ d ∷ t ∷ e ∷ [])) → about_functions s d t e ≡ formula_in (pattern_of FunctionEquality) (s ∷ d ∷ t ∷ e ∷ [])
unfolding kind_at kind_table
functions_to s d t e h = let x : Moved s = moved s h.0.0.0 in λ i. iff_ (eq_ (fun_ s d) (fun_ t e)) (and_ (eq_ s t) (all_ (imp_ (in_ (bound 0) (x i)) (eq_ d e))))

-- where a formula is closed, its parameters have no other variables than they may have
one_from : (s : OfOne) (a : Tree) → IsScoped 0 (formula_of_one s a) → IsOpen (pattern_of (One s)).opening (a ∷ []) × IsScoped 0 (subject_in (pattern_of (One s)) (a ∷ []))
unfolding kind_at kind_table
one_from Boolean a h = (tt, h.0)
one_from Choice a h = (h.0.1, h.0)

two_from : (s : OfTwo) (a b : Tree) → IsScoped 0 (formula_of_two s a b) → IsOpen (pattern_of (Two s)).opening (a ∷ b ∷ []) × IsScoped 0 (subject_in (pattern_of (Two s)) (a ∷ b ∷ []))
unfolding kind_at kind_table
two_from Power a b h = (tt, h.0)
two_from Union a b h = (tt, h.0)
two_from Subset a b h = (tt, h.0)
two_from Extensionality a b h = (tt, h.1.0)
two_from Domain a b h = (tt, h.0)

three_from : (s : OfThree) (a b c : Tree) → IsScoped 0 (formula_of_three s a b c) → IsOpen (pattern_of (Three s)).opening (a ∷ b ∷ c ∷ []) × IsScoped 0 (subject_in (pattern_of (Three s)) (a ∷ b ∷ c ∷ []))
unfolding kind_at kind_table
three_from Cup a b c h = (tt, h.0)
three_from Cap a b c h = (tt, h.0)
three_from Difference a b c h = (tt, h.0)
three_from Filter a b c h = ((h.0.0, h.0.1.0.1), h.0)
three_from Image a b c h = (tt, h.0)
three_from Then a b c h = (tt, h.1.0)
three_from Otherwise a b c h = (tt, h.1.0)
three_from Application a b c h = ((h.0.0, h.1.0.0.0.1), h.1.0.0)
three_from FunctionSet a b c h = (tt, h.0)
three_from Except a b c h = (tt, h.0)

-- how many parameters
one_count : (s : OfOne) → (pattern_of (One s)).count ≡ 1
one_count Boolean = refl
one_count Choice = refl

two_count : (s : OfTwo) → (pattern_of (Two s)).count ≡ 2
two_count Power = refl
two_count Union = refl
two_count Subset = refl
two_count Extensionality = refl
two_count Domain = refl

three_count : (s : OfThree) → (pattern_of (Three s)).count ≡ 3
three_count Cup = refl
three_count Cap = refl
three_count Difference = refl
three_count Filter = refl
three_count Image = refl
three_count Then = refl
three_count Otherwise = refl
three_count Application = refl
three_count FunctionSet = refl
three_count Except = refl

to_row : (s : Schema) → (es : List Tree) → IsProper (pattern_of s) es → row_of s 0 es ≡ Some (formula_in (pattern_of s) es)
to_row (One s) [] h = absurd (let n = h.0 in omega (arith, one_count s))
to_row (One s) (a ∷ []) h = ap Some (one_to s a h.2)
to_row (One s) (a ∷ b ∷ es) h = absurd (let n = h.0 in omega (arith, one_count s))
to_row (Two s) [] h = absurd (let n = h.0 in omega (arith, two_count s))
to_row (Two s) (a ∷ []) h = absurd (let n = h.0 in omega (arith, two_count s))
to_row (Two s) (a ∷ b ∷ []) h = ap Some (two_to s a b h.2)
to_row (Two s) (a ∷ b ∷ c ∷ es) h = absurd (let n = h.0 in omega (arith, two_count s))
to_row (Three s) [] h = absurd (let n = h.0 in omega (arith, three_count s))
to_row (Three s) (a ∷ []) h = absurd (let n = h.0 in omega (arith, three_count s))
to_row (Three s) (a ∷ b ∷ []) h = absurd (let n = h.0 in omega (arith, three_count s))
to_row (Three s) (a ∷ b ∷ c ∷ []) h = ap Some (three_to s a b c h.2)
to_row (Three s) (a ∷ b ∷ c ∷ d ∷ es) h = absurd (let n = h.0 in omega (arith, three_count s))
to_row FunctionEquality [] h = absurd (let n = h.0 in omega arith)
to_row FunctionEquality (a ∷ []) h = absurd (let n = h.0 in omega arith)
to_row FunctionEquality (a ∷ b ∷ []) h = absurd (let n = h.0 in omega arith)
to_row FunctionEquality (a ∷ b ∷ c ∷ []) h = absurd (let n = h.0 in omega arith)
to_row FunctionEquality (a ∷ b ∷ c ∷ d ∷ []) h = ap Some (functions_to a b c d h.2)
to_row FunctionEquality (a ∷ b ∷ c ∷ d ∷ f ∷ es) h = absurd (let n = h.0 in omega arith)

proper : (p : Pattern) (es : List Tree) → p.count ≡ length es → IsOpen p.opening es × IsScoped 0 (subject_in p es) → IsProper p es
proper p es n h = (sym n, h.0, h.1)

some_is : (x i : Tree) → ◌≡◌ {A = Option Tree} (Some x) (Some i) → IsScoped 0 i → IsScoped 0 x
some_is x i e h = let q : i ≡ x = cc in subst (λ t. IsScoped 0 t) q h

from_row : (s : Schema) → (es : List Tree) (i : Tree) → row_of s 0 es ≡ Some i → IsScoped 0 i → IsProper (pattern_of s) es
unfolding kind_at kind_table
from_row (One s) (a ∷ []) i q h = proper (pattern_of (One s)) (a ∷ []) (one_count s) (one_from s a (some_is (formula_of_one s a) i q h))
from_row (Two s) (a ∷ b ∷ []) i q h = proper (pattern_of (Two s)) (a ∷ b ∷ []) (two_count s) (two_from s a b (some_is (formula_of_two s a b) i q h))
from_row (Three s) (a ∷ b ∷ c ∷ []) i q h = proper (pattern_of (Three s)) (a ∷ b ∷ c ∷ []) (three_count s) (three_from s a b c (some_is (formula_of_three s a b c) i q h))
from_row FunctionEquality (a ∷ b ∷ c ∷ d ∷ []) i q h = let z : IsScoped 0 (about_functions a b c d) = some_is (about_functions a b c d) i q h in (refl, tt, z.0)
from_row _ es i q h = cc

other_number : (s : Schema) → (z : ℕ) (es : List Tree) (i : Tree) → ¬ (z ≡ 0) → row_of s z es ≡ Some i → ⊥
other_number s zero es i n q = n refl
other_number (One s) (suc z) es i n q = cc
other_number (Two s) (suc z) es i n q = cc
other_number (Three s) (suc z) es i n q = cc
other_number FunctionEquality (suc z) es i n q = cc

pub row_at-get : (rs : List Row) (k : ℕ) → row_at rs k ≡ get_or rs k no_row
row_at-get [] k = refl
row_at-get (r ∷ rs) zero = refl
row_at-get (r ∷ rs) (suc k) = row_at-get rs k

rows_are : take 18 (drop 2 rows) ≡ map row_of schemas
rows_are = refl

abbrev places : List ℕ
places = 0 ∷ 1 ∷ 2 ∷ 3 ∷ 4 ∷ 5 ∷ 6 ∷ 7 ∷ 8 ∷ 9 ∷ 10 ∷ 11 ∷ 12 ∷ 13 ∷ 14 ∷ 15 ∷ 16 ∷ 17 ∷ []

patterns_are : map pattern_at places ≡ map pattern_of schemas
patterns_are = refl

place_at : (j : ℕ) → j < 18 → get_or places j 0 ≡ j
place_at j l = let e : nat_eq (get_or places j 0) j ≡ true = agree_below_at (λ j. nat_eq (get_or places j 0) j) (λ _. true) 18 j refl l in grind (arith, nat_tests)

-- the schema of a pattern
record IsNamed (k : ℕ) : Type 0 where
  pub schema : Schema
  pub row : instance_of k ≡ row_of schema
  pub pattern : pattern_at (k - 2) ≡ pattern_of schema

named : (k : ℕ) → 1 < k → k < 20 → IsNamed k
named k l m =
    let j : ℕ = k - 2 in
    let b : j < 18 = omega arith in
    let e : 2 + j ≡ k = omega arith in
    record {
      schema = get_or schemas j FunctionEquality;
      row = row_at-get rows k ∙ ap (λ i. get_or rows i no_row) (sym e) ∙ sym (get_or-drop 2 rows j no_row) ∙ sym (get_or-take 18 (drop 2 rows) j no_row b) ∙ ap (λ rs. get_or rs j no_row) rows_are ∙ get_or-map row_of schemas j FunctionEquality no_row b;
      pattern = ap pattern_at (sym (place_at j b)) ∙ sym (get_or-map pattern_at places j 0 (pattern_at 0) b) ∙ ap (λ ps. get_or ps j (pattern_at 0)) patterns_are ∙ get_or-map pattern_of schemas j FunctionEquality (pattern_at 0) b;
    }

row_numbered : (k z : ℕ) (es : List Tree) (n : IsNamed k) → instance_of k z es ≡ row_of n.schema z es
row_numbered k z es n = ap (λ (r : Row). r z es) n.row

pub pattern_instance : (ts : List Tree) (k : ℕ) (es : List Tree) (o : Option ℕ) → 1 < k → k < 20 → HasPattern ts (pattern_at (k - 2)) es o → IsInstance ts k 0 es o
pattern_instance ts k es (Some j) l m h =
    let n = named k l m in
    let v : HasPattern ts (pattern_of n.schema) es (Some j) = subst (λ p. HasPattern ts p es (Some j)) n.pattern h in
    (formula_in (pattern_of n.schema) es, row_numbered k 0 es n ∙ to_row n.schema es v.0, v.1)
pattern_instance ts k es None l m h = λ i e c.
    let n = named k l m in
    let v : HasPattern ts (pattern_of n.schema) es None = subst (λ p. HasPattern ts p es None) n.pattern h in
    v (from_row n.schema es i (sym (row_numbered k 0 es n) ∙ e) c)

pub pattern_number : (ts : List Tree) (k z : ℕ) (es : List Tree) → 1 < k → k < 20 → ¬ (z ≡ 0) → IsInstance ts k z es None
pattern_number ts k z es l m nz = λ i e c. let n = named k l m in other_number n.schema z es i nz (sym (row_numbered k z es n) ∙ e)
