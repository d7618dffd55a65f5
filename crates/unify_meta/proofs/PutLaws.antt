-- Putting a term in for a metavariable is replacing the constant.
use Rattle.std.proofs.Common.{◌≡◌, Bool, true, false, [], ◌∷◌, refl, ap, sym, ◌∙◌}
use Rattle.core_expr.specs.declared.head.Sym.{Sym}
use Rattle.core_expr.specs.Tree.{Tree, Parts}
use Rattle.core_expr.specs.Tree.Tree.{bound, app, node, bind}
use Rattle.core_expr.specs.Tree.Parts.{end, part}
use Rattle.core_expr.specs.Terms.{same, same_sym}
use Rattle.search_definition.specs.Terms.{if_so, either, occurs, occurs_in, replace, replaces}
use Rattle.unifier_definition.specs.Metas.{has_meta, have_meta, assigns, put}

abbrev pub select : {A : Type 0} → Bool → A → A → A
select b x y = elim b [ true ↦ x | false ↦ y ]

either-select : (a b : Bool) → select a true b ≡ either a b
either-select true b = refl
either-select false b = refl

never : (b : Bool) → select b false false ≡ false
never true = refl
never false = refl

module _ (m : Sym) (u : Tree) where
  alone : (f : Sym) (b : Bool) → select (select b true false) u (app f end) ≡ if_so (select b true false) u (app f end)
  alone f true = refl
  alone f false = refl

  applied : (f : Sym) (e : Tree) (ps : Parts) (x y : Tree) → x ≡ y → x ≡ if_so (same (app m end) (app f (part e ps))) u y
  applied f e ps x y h = h ∙ ap (λ b. if_so b u y) (sym (never (same_sym m f)))

  mutual
    pub put-replace : (e : Tree) → put m u e ≡ replace (app m end) u e
    put-replace (bound i) = refl
    put-replace (app f end) = alone f (same_sym m f)
    put-replace (app f (part e ps)) =
        applied f e ps (app f (part (put m u e) (assigns (m ∷ []) (λ g. u) ps))) (app f (part (replace (app m end) u e) (replaces (app m end) u ps))) (λ i. app f (part (put-replace e i) (puts-replaces ps i)))
    put-replace (node h ns ps) = ap (node h ns) (puts-replaces ps)
    put-replace (bind b ps e) = λ i. bind b (puts-replaces ps i) (put-replace e i)

    pub puts-replaces : (ps : Parts) → assigns (m ∷ []) (λ g. u) ps ≡ replaces (app m end) u ps
    puts-replaces end = refl
    puts-replaces (part e ps) = λ i. part (put-replace e i) (puts-replaces ps i)

module _ (m : Sym) where
  single : (b : Bool) → select b true false ≡ either (select b true false) false
  single true = refl
  single false = refl

  mutual
    pub has-occurs : (e : Tree) → has_meta (m ∷ []) e ≡ occurs (app m end) e
    has-occurs (bound i) = refl
    has-occurs (app f end) = single (same_sym m f)
    has-occurs (app f (part e ps)) =
        (λ i. select (has-occurs e i) true (have-occurs ps i)) ∙ either-select (occurs (app m end) e) (occurs_in (app m end) ps)
        ∙ ap (λ b. either b (either (occurs (app m end) e) (occurs_in (app m end) ps))) (sym (never (same_sym m f)))
    has-occurs (node h ns ps) = have-occurs ps
    has-occurs (bind b ps e) = (λ i. select (have-occurs ps i) true (has-occurs e i)) ∙ either-select (occurs_in (app m end) ps) (occurs (app m end) e)

    pub have-occurs : (ps : Parts) → have_meta (m ∷ []) ps ≡ occurs_in (app m end) ps
    have-occurs end = refl
    have-occurs (part e ps) = (λ i. select (has-occurs e i) true (have-occurs ps i)) ∙ either-select (occurs (app m end) e) (occurs_in (app m end) ps)
