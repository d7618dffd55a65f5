-- The forms of expressions that lead to several nodes.
use Rattle.std.specs.Prelude.{List, [], ◌∷◌, map, fold}
use Rattle.core_expr.specs.declared.head.Binder.TheVariants.{Filter, Fun, Choose}
use Rattle.core_expr.specs.declared.head.Head.TheVariants.{True, False, Not, And, Or, Eq, Enum, Union, FunSet, Apply, Except, If}
use Rattle.core_expr.specs.Tree.{Tree, true_, eq_, in_, apply_, enum_, str_}
use Rattle.core_expr.specs.Tree.Tree.{bound}
use Rattle.core_expr.specs.Heads.{parts_of}
use Rattle.plain_syntax.specs.Plain.{Text}
use Rattle.prime_expand.specs.declared.both.Both.{Both}
use Rattle.prime_expand.specs.Both.{same, on_both, unary, binary, ternary, many, quantified, ranged, joined}

-- v' = v; primed again, a prime changes nothing more
abbrev pub unchanged : Both → Both
unchanged v = binary Eq (same v.primed) v

-- [A]_v
abbrev pub boxed : Both → Both → Both
boxed a v = binary Or a (unchanged v)

-- <<A>>_v
abbrev pub angled : Both → Both → Both
angled a v = binary And a (unary Not (unchanged v))

abbrev pub string : Text → Both
string h = same (str_ h)

-- ---- EXCEPT

-- r[k1]..[kn]
abbrev pub along : Both → List Both → Both
along = fold (binary Apply)

-- [r EXCEPT ![k1]..[kn] = v]
abbrev pub updated : Both → List Both → Both → Both
updated r [] v = v
updated r (k ∷ ks) v = ternary Except r k (updated (binary Apply r k) ks v)

-- the values on the way of a path, each with the key that follows it
abbrev pub way : Both → List Both → List (Both × Both)
way r [] = []
way r (k ∷ ks) = (r, k) ∷ way (binary Apply r k) ks

-- ---- records

-- the value of the field that the bound variable is, the last without a test
abbrev pub field_value : List Text → List Both → Both
field_value hs [] = same true_
field_value hs (v ∷ []) = v
field_value [] (v ∷ w ∷ vs) = v
field_value (h ∷ hs) (v ∷ w ∷ vs) = ternary If (same (eq_ (bound 0) (str_ h))) v (field_value hs (w ∷ vs))

-- the field of the bound variable is in its set, for each field
abbrev pub field_conditions : List Text → List Both → List Both
field_conditions [] ss = []
field_conditions (h ∷ hs) [] = []
field_conditions (h ∷ hs) (s ∷ ss) = on_both (in_ (apply_ (bound 0) (str_ h))) s ∷ field_conditions hs ss

abbrev pub field_names : List Text → Tree
field_names hs = enum_ (parts_of (map str_ hs))

-- [h1 |-> v1, ..], where the values stand under one binder
abbrev pub record_of : List Text → List Both → Both
record_of hs vs = ranged Fun (same (field_names hs)) (field_value hs vs)

-- [h1 : S1, ..], where the second sets stand under one binder
abbrev pub records_of : List Text → List Both → List Both → Both
records_of hs us ss =
    ranged Filter (binary FunSet (same (field_names hs)) (unary Union (many Enum us))) (joined And True (field_conditions hs ss))

-- ---- CASE

-- the guards, where guards and values stand in turn
abbrev pub guards : List Both → List Both
guards [] = []
guards (p ∷ []) = []
guards (p ∷ e ∷ bs) = p ∷ guards bs

-- the bound variable is the value, where the guard is true
abbrev pub arm : Both → Both → Both
arm p e = binary And p (on_both (eq_ (bound 0)) e)

-- the arms; a value without a guard is that of OTHER
abbrev pub arms : Both → List Both → List Both
arms other [] = []
arms other (e ∷ []) = arm other e ∷ []
arms other (p ∷ e ∷ bs) = arm p e ∷ arms other bs

-- no guard is true
abbrev pub otherwise : List Both → Both
otherwise bs = unary Not (joined Or False (guards bs))

-- a CASE, whose parts stand under one binder
abbrev pub case_of : List Both → Both
case_of bs = quantified Choose (joined Or False (arms (otherwise bs) bs))
