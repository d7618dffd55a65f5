-- The schemas.
use Rattle.std.specs.Prelude.{ℕ, zero, suc, ◌+◌, Bool, true, false, not, cond, nat_le, nat_eq, Option, Some, None, List, [], ◌∷◌, length, take, drop}
use Rattle.core_expr.specs.Tree.{Tree, Parts, true_, false_, boolean_, not_, and_, or_, imp_, iff_, eq_, in_, subseteq_, cup_, cap_, diff_, power_, union_, funset_, dom_, apply_, except_, if_, enum_, tuple_, num_, str_, all_, ex_, choose_, filter_, image_, fun_}
use Rattle.core_expr.specs.declared.head.Head.{Head}
use Rattle.core_expr.specs.Tree.Tree.{bound, node}
use Rattle.core_expr.specs.Tree.Parts.{end, part}
use Rattle.core_expr.specs.Heads.{parts_of}
use Rattle.core_expr.specs.Put.{inst, shift}
use Rattle.core_expr.specs.Terms.{lists_equal, is_scoped}

-- the parts of a list
abbrev pub parts : List Tree → Parts
parts es = parts_of es

-- x, joined from the left with the rest
abbrev pub join_from : (Tree → Tree → Tree) → Tree → List Tree → Tree
join_from op x [] = x
join_from op x (y ∷ ys) = join_from op (op x y) ys

abbrev pub join : (Tree → Tree → Tree) → Tree → List Tree → Tree
join op none [] = none
join op none (x ∷ xs) = join_from op x xs

abbrev pub equals_each : Tree → List Tree → List Tree
equals_each t [] = []
equals_each t (e ∷ es) = eq_ t e ∷ equals_each t es

abbrev pub equal_pairs : List Tree → List Tree → List Tree
equal_pairs [] bs = []
equal_pairs (a ∷ as') [] = []
equal_pairs (a ∷ as') (b ∷ bs) = eq_ a b ∷ equal_pairs as' bs

-- what is in a set whose elements are listed
abbrev pub about_enumeration : Tree → List Tree → Tree
about_enumeration t es = iff_ (in_ t (enum_ (parts es))) (join (λ a b. or_ a b) false_ (equals_each t es))

abbrev pub row1 : ℕ → List Tree → Option Tree
row1 z [] = None
row1 z (t ∷ es) = Some (about_enumeration t es)

-- what is in two sets that are joined, as the connective of what is in each says
abbrev pub joined : Head → Head → Tree → Tree → Tree → Tree
joined set connective t a b = iff_ (in_ t (node set [] (part a (part b end)))) (node connective [] (part (in_ t a) (part (in_ t b) end)))

-- what is in a union of two sets, an intersection, a difference
abbrev pub about_cup : Tree → Tree → Tree → Tree
about_cup t a b = iff_ (in_ t (cup_ a b)) (or_ (in_ t a) (in_ t b))

abbrev pub about_cap : Tree → Tree → Tree → Tree
about_cap t a b = iff_ (in_ t (cap_ a b)) (and_ (in_ t a) (in_ t b))

abbrev pub about_difference : Tree → Tree → Tree → Tree
about_difference t a b = iff_ (in_ t (diff_ a b)) (and_ (in_ t a) (not_ (in_ t b)))

-- what is in a set of subsets
abbrev pub about_power : Tree → Tree → Tree
about_power t a = iff_ (in_ t (power_ a)) (subseteq_ t a)

-- what is in the union of a set's elements
abbrev pub about_union : Tree → Tree → Tree
about_union t a = iff_ (in_ t (union_ a)) (ex_ (and_ (in_ (bound 0) (shift 0 1 a)) (in_ (shift 0 1 t) (bound 0))))

-- what is in a set that a condition selects
abbrev pub about_filter : Tree → Tree → Tree → Tree
about_filter t a p = iff_ (in_ t (filter_ a p)) (and_ (in_ t a) (inst p t))

-- what is in a set of images
abbrev pub about_image : Tree → Tree → Tree → Tree
about_image t a e = iff_ (in_ t (image_ a e)) (ex_ (and_ (in_ (bound 0) (shift 0 1 a)) (eq_ (shift 0 1 t) e)))

-- what is in BOOLEAN
abbrev pub about_boolean : Tree → Tree
about_boolean t = iff_ (in_ t boolean_) (or_ (eq_ t true_) (eq_ t false_))

-- what it is to be a subset
abbrev pub about_subset : Tree → Tree → Tree
about_subset a b = iff_ (subseteq_ a b) (all_ (imp_ (in_ (bound 0) (shift 0 1 a)) (in_ (bound 0) (shift 0 1 b))))

-- sets with the same elements are equal
abbrev pub about_extensionality : Tree → Tree → Tree
about_extensionality a b = imp_ (all_ (iff_ (in_ (bound 0) (shift 0 1 a)) (in_ (bound 0) (shift 0 1 b)))) (eq_ a b)

-- what exists is had by the chosen value
abbrev pub about_choice : Tree → Tree
about_choice p = imp_ (ex_ p) (inst p (choose_ p))

-- a choice whose condition holds, and one whose condition does not
abbrev pub about_then : Tree → Tree → Tree → Tree
about_then p a b = imp_ p (eq_ (if_ p a b) a)

abbrev pub about_otherwise : Tree → Tree → Tree → Tree
about_otherwise p a b = imp_ (not_ p) (eq_ (if_ p a b) b)

-- the domain of a function that is written out, and its value
abbrev pub about_domain : Tree → Tree → Tree
about_domain s e = eq_ (dom_ (fun_ s e)) s

abbrev pub about_application : Tree → Tree → Tree → Tree
about_application a s e = imp_ (in_ a s) (eq_ (apply_ (fun_ s e) a) (inst e a))

-- the values on s are equal
abbrev pub values_equal : Tree → Tree → Tree → Tree
values_equal s d e = all_ (imp_ (in_ (bound 0) (shift 0 1 s)) (eq_ d e))

-- when two functions that are written out are equal
abbrev pub about_functions : Tree → Tree → Tree → Tree → Tree
about_functions s d t e = iff_ (eq_ (fun_ s d) (fun_ t e)) (and_ (eq_ s t) (values_equal s d e))

-- f is the function with its own values
abbrev pub own_values : Tree → Tree → Tree
own_values f s = eq_ f (fun_ s (apply_ (shift 0 1 f) (bound 0)))

-- the values of f on s are in t
abbrev pub values_within : Tree → Tree → Tree → Tree
values_within f s t = all_ (imp_ (in_ (bound 0) (shift 0 1 s)) (in_ (apply_ (shift 0 1 f) (bound 0)) (shift 0 1 t)))

-- what is in a set of functions
abbrev pub about_function_set : Tree → Tree → Tree → Tree
about_function_set f s t = iff_ (in_ f (funset_ s t)) (and_ (own_values f s) (values_within f s t))

-- the values of f, but b at a
abbrev pub changed_value : Tree → Tree → Tree → Tree
changed_value f a b = if_ (eq_ (bound 0) (shift 0 1 a)) (shift 0 1 b) (apply_ (shift 0 1 f) (bound 0))

-- a function with one value changed
abbrev pub about_except : Tree → Tree → Tree → Tree
about_except f a b = eq_ (except_ f a b) (fun_ (dom_ f) (changed_value f a b))

-- a row with so many parameters
abbrev pub of_one : (Tree → Tree) → ℕ → List Tree → Option Tree
of_one f z (a ∷ []) = Some (f a)
of_one f z _ = None

abbrev pub of_two : (Tree → Tree → Tree) → ℕ → List Tree → Option Tree
of_two f z (a ∷ b ∷ []) = Some (f a b)
of_two f z _ = None

abbrev pub of_three : (Tree → Tree → Tree → Tree) → ℕ → List Tree → Option Tree
of_three f z (a ∷ b ∷ c ∷ []) = Some (f a b c)
of_three f z _ = None

abbrev pub of_four : (Tree → Tree → Tree → Tree → Tree) → ℕ → List Tree → Option Tree
of_four f z (a ∷ b ∷ c ∷ d ∷ []) = Some (f a b c d)
of_four f z _ = None

-- what the equality of two tuples means: each two entries are equal, or FALSE where they are not as many
abbrev pub tuple_meaning : List Tree → List Tree → Tree
tuple_meaning ls rs = cond (nat_eq (length ls) (length rs)) (join (λ a b. and_ a b) true_ (equal_pairs ls rs)) false_

-- when two tuples are equal
abbrev pub about_tuples : List Tree → List Tree → Tree
about_tuples ls rs = iff_ (eq_ (tuple_ (parts ls)) (tuple_ (parts rs))) (tuple_meaning ls rs)

-- when two tuples are equal: the first z parameters are the entries of the first
abbrev pub row20 : ℕ → List Tree → Option Tree
row20 z es =
    cond (nat_le z (length es))
    (Some (iff_ (eq_ (tuple_ (parts (take z es))) (tuple_ (parts (drop z es)))) (cond (nat_eq (z + z) (length es)) (join (λ a b. and_ a b) true_ (equal_pairs (take z es) (drop z es))) false_)))
    None

abbrev pub nth : List Tree → ℕ → Option Tree
nth [] j = None
nth (e ∷ es) zero = Some e
nth (e ∷ es) (suc j) = nth es j

-- the entry z of a tuple is e
abbrev pub about_entry : List Tree → ℕ → Tree → Tree
about_entry es z e = eq_ (apply_ (tuple_ (parts es)) (num_ 0 z)) e

abbrev pub about_nth : List Tree → ℕ → Option Tree → Option Tree
about_nth es z None = None
about_nth es z (Some e) = Some (about_entry es z e)

-- an entry of a tuple
abbrev pub row21 : ℕ → List Tree → Option Tree
row21 zero es = None
row21 (suc z) es = about_nth es (suc z) (nth es z)

-- two different numbers, or two different strings
abbrev pub are_apart : Tree → Tree → Bool
are_apart (num_ a b) (num_ c d) = not (lists_equal (a ∷ b ∷ []) (c ∷ d ∷ []))
are_apart (str_ a) (str_ b) = not (lists_equal a b)
are_apart _ _ = false

abbrev pub row22 : ℕ → List Tree → Option Tree
row22 z (l ∷ m ∷ []) = cond (are_apart l m) (Some (not_ (eq_ l m))) None
row22 z _ = None

abbrev pub no_row : ℕ → List Tree → Option Tree
no_row z es = None

abbrev pub Row : Type 0
Row = ℕ → List Tree → Option Tree

-- a row whose number is 0
abbrev pub unnumbered : Row → Row
unnumbered r zero es = r 0 es
unnumbered r (suc z) es = None

-- the rows in order: a number counts only in those of tuples
abbrev pub rows : List Row
rows =
    no_row ∷ unnumbered row1 ∷ unnumbered (of_three about_cup) ∷ unnumbered (of_three about_cap) ∷ unnumbered (of_three about_difference) ∷ unnumbered (of_two about_power) ∷ unnumbered (of_two about_union) ∷ unnumbered (of_three about_filter)
    ∷ unnumbered (of_three about_image) ∷ unnumbered (of_one about_boolean) ∷ unnumbered (of_two about_subset) ∷ unnumbered (of_two about_extensionality) ∷ unnumbered (of_one about_choice) ∷ unnumbered (of_three about_then)
    ∷ unnumbered (of_three about_otherwise) ∷ unnumbered (of_two about_domain) ∷ unnumbered (of_three about_application) ∷ unnumbered (of_four about_functions) ∷ unnumbered (of_three about_function_set) ∷ unnumbered (of_three about_except) ∷ row20
    ∷ row21 ∷ unnumbered row22 ∷ []

abbrev pub row_at : List Row → ℕ → Row
row_at [] k = no_row
row_at (r ∷ rs) zero = r
row_at (r ∷ rs) (suc k) = row_at rs k

-- the formula of the schema k with the number z and these parameters, closed or not
abbrev pub instance_of : ℕ → ℕ → List Tree → Option Tree
instance_of k = row_at rows k

-- this formula, where it is closed
abbrev pub if_closed : Option Tree → Option Tree
if_closed None = None
if_closed (Some i) = elim (is_scoped 0 i) [ true ↦ Some i | false ↦ None ]

-- the closed instance of the schema k with the number z and these parameters
abbrev pub closed_instance : ℕ → ℕ → List Tree → Option Tree
closed_instance k z es = if_closed (instance_of k z es)
