-- The core of an expression and that of the expression primed, side by side.
use Rattle.std.specs.Prelude.{ℕ, ◌-◌, List, [], ◌∷◌, map, fold, get_or}
use Rattle.core_expr.specs.declared.head.Head.{Head}
use Rattle.core_expr.specs.declared.head.Binder.{Binder}
use Rattle.core_expr.specs.declared.head.Binder.TheVariants.{All}
use Rattle.core_expr.specs.declared.head.Head.TheVariants.{And, Imp, Temporal}
use Rattle.core_expr.specs.Tree.{Tree, true_, in_}
use Rattle.core_expr.specs.Tree.Tree.{bound, node, bind}
use Rattle.core_expr.specs.Tree.{Parts as parts}
use Rattle.core_expr.specs.Heads.{parts_of}
use Rattle.core_expr.specs.Put.{shift}
use Rattle.prime_expand.specs.declared.both.Both.{Both}

-- its own prime
abbrev pub same : Tree → Both
same t = record { plain = t; primed = t }

abbrev pub on_both : (Tree → Tree) → Both → Both
on_both f a = record { plain = f a.plain; primed = f a.primed }

abbrev pub on_two : (Tree → Tree → Tree) → Both → Both → Both
on_two f a b = record { plain = f a.plain b.plain; primed = f a.primed b.primed }

abbrev pub on_three : (Tree → Tree → Tree → Tree) → Both → Both → Both → Both
on_three f a b c = record { plain = f a.plain b.plain c.plain; primed = f a.primed b.primed c.primed }

abbrev pub plains : List Both → List Tree
plains = map (λ (a : Both). a.plain)

abbrev pub primeds : List Both → List Tree
primeds = map (λ (a : Both). a.primed)

-- ---- nodes

abbrev pub leaf : Head → Both
leaf h = same (node h [] parts.end)

abbrev pub unary : Head → Both → Both
unary h = on_both (λ a. node h [] (parts.part a parts.end))

abbrev pub binary : Head → Both → Both → Both
binary h = on_two (λ a b. node h [] (parts.part a (parts.part b parts.end)))

abbrev pub ternary : Head → Both → Both → Both → Both
ternary h = on_three (λ a b c. node h [] (parts.part a (parts.part b (parts.part c parts.end))))

-- an Enum or a Tuple
abbrev pub many : Head → List Both → Both
many h bs = record { plain = node h [] (parts_of (plains bs)); primed = node h [] (parts_of (primeds bs)) }

-- All, Ex or Choose over a body
abbrev pub quantified : Binder → Both → Both
quantified b = on_both (λ p. bind b parts.end p)

-- Filter, Image or Fun over a set and a body
abbrev pub ranged : Binder → Both → Both → Both
ranged b = on_two (λ s p. bind b (parts.part s parts.end) p)

-- a bound name of a set: `x \in S => P` under \A, else `x \in S /\ P`
abbrev pub restriction : Binder → Head
restriction All = Imp
restriction _ = And

abbrev pub bounded : Binder → Both → Both → Both
bounded b s p = quantified b (binary (restriction b) (on_both (in_ (bound 0)) s) p)

abbrev pub temporal_ : Both
temporal_ = leaf Temporal

-- what stood at depth e, at the depth d
abbrev pub lifted : ℕ → ℕ → Both → Both
lifted d e = on_both (λ t. shift 0 (d - e) t)

-- ---- lists of parts

-- the part at a place; no expression that was read lacks one
abbrev pub part_at : ℕ → List Both → Both
part_at i bs = get_or bs i (same true_)

abbrev pub one : Head → List Both → Both
one h bs = unary h (part_at 0 bs)

abbrev pub two : Head → List Both → Both
two h bs = binary h (part_at 0 bs) (part_at 1 bs)

abbrev pub three : Head → List Both → Both
three h bs = ternary h (part_at 0 bs) (part_at 1 bs) (part_at 2 bs)

-- nested to the left; one part is itself
abbrev pub joined : Head → Head → List Both → Both
joined h none_ [] = leaf none_
joined h none_ (b ∷ bs) = fold (binary h) b bs

-- every second
abbrev pub seconds : List Both → List Both
seconds [] = []
seconds (a ∷ []) = []
seconds (a ∷ b ∷ bs) = b ∷ seconds bs
