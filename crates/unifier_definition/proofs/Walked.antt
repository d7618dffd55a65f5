-- Nodes of one kind with the same numbers.
use Rattle.std.proofs.Common.{◌≡◌, ◌<◌, List, [], ◌∷◌, length, refl, ap, sym, ◌∙◌, arith}
use Rattle.core_expr.specs.declared.head.Sym.{Sym}
use Rattle.core_expr.specs.declared.row.RowKind.TheVariants.{Bound, Symbol, Plain, Binding}
use Rattle.core_expr.specs.Tree.{Tree}
use Rattle.core_expr.specs.Tree.Tree.{app}
use Rattle.core_expr.specs.Tree.Parts.{end}
use Rattle.core_expr.specs.Terms.{head_code, binder_code, lists_equal}
use Rattle.core_expr.proofs.Equal.{nat-refl, lists-refl, sym-refl}
use Rattle.core_expr.specs.Heads.{kept_numbers, parts_of, front, back}
use Rattle.unifier_definition.specs.Unify.{Difference, then, difference, differences}
use Rattle.unifier_definition.specs.Unify.Difference.{Same, Clash, Bind}
use Rattle.unifier_definition.specs.Walk.{first_difference, DifferenceByParts}
use Rattle.unifier_definition.proofs.Substituted.{either}
use Rattle.unifier_definition.proofs.Differs.{says-self}

by-list : (ms : List Sym) (ss ts : List Tree) → differences ms (parts_of ss) (parts_of ts) ≡ first_difference ms ss ts
by-list ms [] [] = refl
by-list ms [] (t ∷ ts) = refl
by-list ms (s ∷ ss) [] = refl
by-list ms (s ∷ ss) (t ∷ ts) = ap (then (difference ms s t)) (by-list ms ss ts)

then-then : (a b c : Difference) → then (then a b) c ≡ then a (then b c)
then-then Same b c = refl
then-then Clash b c = refl
then-then (Bind m u) b c = refl

then-same : (a : Difference) → then a Same ≡ a
then-same Same = refl
then-same Clash = refl
then-same (Bind m u) = refl

body-last : (ms : List Sym) (ss ts : List Tree) → length ss ≡ length ts → 0 < length ss → then (first_difference ms (front ss) (front ts)) (difference ms (back ss) (back ts)) ≡ first_difference ms ss ts
body-last ms [] ts e h = absurd (omega arith)
body-last ms (s ∷ ss) [] e h = absurd (omega (arith, e))
body-last ms (s ∷ []) (t ∷ []) e h = sym (then-same (difference ms s t))
body-last ms (s ∷ []) (t ∷ u ∷ ts) e h = absurd (omega (arith, e))
body-last ms (s ∷ r ∷ ss) (t ∷ []) e h = absurd (omega (arith, e))
body-last ms (s ∷ r ∷ ss) (t ∷ u ∷ ts) e h =
    then-then (difference ms s t) (first_difference ms (front (r ∷ ss)) (front (u ∷ ts))) (difference ms (back (r ∷ ss)) (back (u ∷ ts)))
    ∙ ap (then (difference ms s t)) (body-last ms (r ∷ ss) (u ∷ ts) (omega (arith, e)) (omega arith))

pub difference_by_parts : DifferenceByParts
difference_by_parts ms Bound ns ss ts n e h = absurd n
difference_by_parts ms (Symbol f) ns [] [] n e h = says-self ms (app f end)
difference_by_parts ms (Symbol f) ns [] (t ∷ ts) n e h = absurd (omega (arith, e))
difference_by_parts ms (Symbol f) ns (s ∷ ss) [] n e h = absurd (omega (arith, e))
difference_by_parts ms (Symbol f) ns (s ∷ ss) (t ∷ ts) n e h =
    ap (λ x. either x (differences ms (parts_of (s ∷ ss)) (parts_of (t ∷ ts))) Clash) (sym-refl f) ∙ by-list ms (s ∷ ss) (t ∷ ts)
difference_by_parts ms (Plain h) ns ss ts n e b =
    ap (λ x. either x (either (lists_equal (kept_numbers h ns) (kept_numbers h ns)) (differences ms (parts_of ss) (parts_of ts)) Clash) Clash) (nat-refl (head_code h))
    ∙ ap (λ x. either x (differences ms (parts_of ss) (parts_of ts)) Clash) (lists-refl (kept_numbers h ns))
    ∙ by-list ms ss ts
difference_by_parts ms (Binding b) ns ss ts n e h =
    ap (λ x. either x (then (differences ms (parts_of (front ss)) (parts_of (front ts))) (difference ms (back ss) (back ts))) Clash) (nat-refl (binder_code b))
    ∙ ap (λ x. then x (difference ms (back ss) (back ts))) (by-list ms (front ss) (front ts))
    ∙ body-last ms ss ts e h
