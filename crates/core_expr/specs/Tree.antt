-- The tree of an expression. An Enum's and a Tuple's count, and a Str's length, are not kept: they are those of what follows.
use Rattle.std.specs.Prelude.{ℕ, suc, List, [], ◌∷◌}
use Rattle.core_expr.specs.declared.head.Sym.{Sym}
use Rattle.core_expr.specs.declared.head.Head.{Head}
use Rattle.core_expr.specs.declared.head.Binder.{Binder}
use Rattle.core_expr.specs.declared.head.Head.TheVariants.{True, False, Num, Str, Boolean, Not, And, Or, Imp, Iff, Eq, In, Subseteq, Enum, Cup, Cap, Diff, Power, Union, FunSet, Dom, Apply, Except, Tuple, If}
use Rattle.core_expr.specs.declared.head.Binder.TheVariants.{All, Ex, Filter, Image, Fun, Choose}

mutual
  -- bind has its body under one binder
  pub data Tree : Type 0 where
    bound : ℕ → Tree
    app : Sym → Parts → Tree
    node : Head → List ℕ → Parts → Tree
    bind : Binder → Parts → Tree → Tree

  pub data Parts : Type 0 where
    end : Parts
    part : Tree → Parts → Parts

abbrev pub size : Parts → ℕ
size end = 0
size (part e ps) = suc (size ps)

pattern abbrev pub true_ : Tree
true_ = node True [] end

pattern abbrev pub false_ : Tree
false_ = node False [] end

pattern abbrev pub boolean_ : Tree
boolean_ = node Boolean [] end

pattern abbrev pub not_ : Tree → Tree
not_ a = node Not [] (part a end)

pattern abbrev pub and_ : Tree → Tree → Tree
and_ a b = node And [] (part a (part b end))

pattern abbrev pub or_ : Tree → Tree → Tree
or_ a b = node Or [] (part a (part b end))

pattern abbrev pub imp_ : Tree → Tree → Tree
imp_ a b = node Imp [] (part a (part b end))

pattern abbrev pub iff_ : Tree → Tree → Tree
iff_ a b = node Iff [] (part a (part b end))

pattern abbrev pub eq_ : Tree → Tree → Tree
eq_ a b = node Eq [] (part a (part b end))

pattern abbrev pub in_ : Tree → Tree → Tree
in_ a b = node In [] (part a (part b end))

pattern abbrev pub subseteq_ : Tree → Tree → Tree
subseteq_ a b = node Subseteq [] (part a (part b end))

pattern abbrev pub cup_ : Tree → Tree → Tree
cup_ a b = node Cup [] (part a (part b end))

pattern abbrev pub cap_ : Tree → Tree → Tree
cap_ a b = node Cap [] (part a (part b end))

pattern abbrev pub diff_ : Tree → Tree → Tree
diff_ a b = node Diff [] (part a (part b end))

pattern abbrev pub power_ : Tree → Tree
power_ a = node Power [] (part a end)

pattern abbrev pub union_ : Tree → Tree
union_ a = node Union [] (part a end)

pattern abbrev pub funset_ : Tree → Tree → Tree
funset_ a b = node FunSet [] (part a (part b end))

pattern abbrev pub dom_ : Tree → Tree
dom_ a = node Dom [] (part a end)

pattern abbrev pub apply_ : Tree → Tree → Tree
apply_ a b = node Apply [] (part a (part b end))

pattern abbrev pub except_ : Tree → Tree → Tree → Tree
except_ a b c = node Except [] (part a (part b (part c end)))

pattern abbrev pub if_ : Tree → Tree → Tree → Tree
if_ a b c = node If [] (part a (part b (part c end)))

pattern abbrev pub enum_ : Parts → Tree
enum_ es = node Enum [] es

pattern abbrev pub tuple_ : Parts → Tree
tuple_ es = node Tuple [] es

pattern abbrev pub num_ : ℕ → ℕ → Tree
num_ a b = node Num (a ∷ b ∷ []) end

pattern abbrev pub str_ : List ℕ → Tree
str_ s = node Str s end

pattern abbrev pub all_ : Tree → Tree
all_ p = bind All end p

pattern abbrev pub ex_ : Tree → Tree
ex_ p = bind Ex end p

pattern abbrev pub choose_ : Tree → Tree
choose_ p = bind Choose end p

pattern abbrev pub filter_ : Tree → Tree → Tree
filter_ s p = bind Filter (part s end) p

pattern abbrev pub image_ : Tree → Tree → Tree
image_ s p = bind Image (part s end) p

pattern abbrev pub fun_ : Tree → Tree → Tree
fun_ s p = bind Fun (part s end) p
