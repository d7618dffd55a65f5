-- What is loose in a schema's formula: where it is closed, so are its parameters but for the variables of its binders.
use Rattle.std.specs.Prelude.{◌≡◌, Bool, true, false, Option, Some, None}
use Rattle.std.proofs.Common.{refl, sym, arith}
use Rattle.core_expr.specs.Tree.{Tree}
use Rattle.core_expr.specs.Put.{IsScoped}
use Rattle.core_expr.specs.Terms.{is_scoped}
use Rattle.core_expr.proofs.LooseLaws.{loose-scoped, IsScoped-from_loose}
use Rattle.core_expr.proofs.Equal.{scoped-true}
use Rattle.seq_calculus.specs.Schemas.{if_closed, about_functions}
use Rattle.seq_calculus.proofs.Closed.{if_closed-some}
use Rattle.seq_calculus.specs.Families.{formula_of_one, formula_of_two, formula_of_three}
use Rattle.seq_calculus.specs.declared.schema.OfOne.{OfOne}
use Rattle.seq_calculus.specs.declared.schema.OfOne.TheVariants.{Boolean, Choice}
use Rattle.seq_calculus.specs.declared.schema.OfTwo.{OfTwo}
use Rattle.seq_calculus.specs.declared.schema.OfTwo.TheVariants.{Power, Union, Subset, Extensionality, Domain}
use Rattle.seq_calculus.specs.declared.schema.OfThree.{OfThree}
use Rattle.seq_calculus.specs.declared.schema.OfThree.TheVariants.{Cup, Cap, Difference, Filter, Image, Then, Otherwise, Application, FunctionSet, Except}

-- a formula that is not closed is no closed instance
if_closed-none : (i : Tree) → ¬ (IsScoped 0 i) → if_closed (Some i) ≡ None
if_closed-none i n = go (is_scoped 0 i) refl
  where
    go : (b : Bool) → is_scoped 0 i ≡ b → ◌≡◌ {A = Option Tree} (elim b [ true ↦ Some i | false ↦ None ]) None
    go true e = absurd (n (scoped-true 0 i e))
    go false e = refl

-- a closed expression may stand under a binder
under : (e : Tree) → IsScoped 0 e → IsScoped 1 e
under e h = IsScoped-from_loose 1 e (let p = loose-scoped 0 e h in omega (arith, p))

one_scoped : (s : OfOne) (a : Tree) → IsScoped 0 (formula_of_one s a) → IsScoped 1 a
one_scoped Boolean a h = under a h.0.0
one_scoped Choice a h = h.0.1

two_scoped : (s : OfTwo) (a b : Tree) → IsScoped 0 (formula_of_two s a b) → IsScoped 0 a × IsScoped 1 b
two_scoped Power a b h = (h.0.0, under b h.0.1.0.0)
two_scoped Union a b h = (h.0.0, under b h.0.1.0.0)
two_scoped Subset a b h = (h.0.0, under b h.0.1.0)
two_scoped Extensionality a b h = (h.1.0.0, under b h.1.0.1.0)
two_scoped Domain a b h = (h.0.0.0.0, h.0.0.1)

three_scoped : (s : OfThree) (a b c : Tree) → IsScoped 0 (formula_of_three s a b c) → IsScoped 0 a × IsScoped 0 b × IsScoped 1 c
three_scoped Cup a b c h = (h.0.0, h.0.1.0.0, under c h.0.1.0.1.0)
three_scoped Cap a b c h = (h.0.0, h.0.1.0.0, under c h.0.1.0.1.0)
three_scoped Difference a b c h = (h.0.0, h.0.1.0.0, under c h.0.1.0.1.0)
three_scoped Filter a b c h = (h.0.0, h.0.1.0.0.0, h.0.1.0.1)
three_scoped Image a b c h = (h.0.0, h.0.1.0.0.0, h.0.1.0.1)
three_scoped Then a b c h = (h.0, h.1.0.0.1.0, under c h.1.0.0.1.1.0)
three_scoped Otherwise a b c h = (h.0.0, h.1.0.0.1.0, under c h.1.0.0.1.1.0)
three_scoped Application a b c h = (h.0.0, h.0.1.0, h.1.0.0.0.1)
three_scoped FunctionSet a b c h = (h.0.0, h.0.1.0.0, under c h.0.1.0.1.0)
three_scoped Except a b c h = (h.0.0, h.0.1.0, under c h.0.1.1.0)

pub one_open : (s : OfOne) (a : Tree) → ¬ (IsScoped 1 a) → if_closed (Some (formula_of_one s a)) ≡ None
one_open s a n = if_closed-none (formula_of_one s a) (λ h. n (one_scoped s a h))

pub two_open : (s : OfTwo) (a b : Tree) → ¬ (IsScoped 0 a × IsScoped 1 b) → if_closed (Some (formula_of_two s a b)) ≡ None
two_open s a b n = if_closed-none (formula_of_two s a b) (λ h. n (two_scoped s a b h))

pub three_open : (s : OfThree) (a b c : Tree) → ¬ (IsScoped 0 a × IsScoped 0 b × IsScoped 1 c) → if_closed (Some (formula_of_three s a b c)) ≡ None
three_open s a b c n = if_closed-none (formula_of_three s a b c) (λ h. n (three_scoped s a b c h))

pub functions_open : (s d t e : Tree) → ¬ (IsScoped 0 s × IsScoped 1 d × IsScoped 0 t × IsScoped 1 e) → if_closed (Some (about_functions s d t e)) ≡ None
functions_open s d t e n = if_closed-none (about_functions s d t e) (λ h. n (h.0.0.0.0, h.0.0.1, h.0.1.0.0.0, h.0.1.0.1))

-- the test of closed formulas
pub tested-true : (i : Tree) → IsScoped 0 i → Some i ≡ if_closed (Some i)
tested-true i h = sym (if_closed-some (Some i) i refl h)

pub tested-false : (i : Tree) → ¬ (IsScoped 0 i) → None ≡ if_closed (Some i)
tested-false i n = sym (if_closed-none i n)
