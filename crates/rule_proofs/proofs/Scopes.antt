-- Which variables are loose in what the translation makes.
use Rattle.std.specs.Prelude.{◌≡◌, true, false}
use Rattle.std.proofs.Common.{refl, subst, sym, arith, ◌∙◌}
use Rattle.core_expr.specs.Tree.{Tree, iff_, eq_, fun_}
use Rattle.core_expr.specs.Put.{inst, IsScoped}
use Rattle.seq_calculus.specs.Calculus.{IsClosed, Proof}
use Rattle.search_definition.specs.Equations.{is_fun}
use Rattle.search_definition.proofs.Lefts.{scoped_more, members-scoped, members-inst}
use Rattle.proof_trees.specs.Equated.{at_body, same_body, elements_body, member_at, described_by, function_values_by}

loosen : (e : Tree) → IsClosed e → IsScoped 1 e
loosen e h = scoped_more 0 1 e (omega arith) h

-- the body that says which values a function takes
pub body_scoped : (b g s e : Tree) → b ≡ at_body g s e → IsClosed g → IsClosed s → IsScoped 1 e → IsScoped 1 b
body_scoped b g s e q cg cs ce = subst (IsScoped 1) (sym q) ((omega arith, (loosen s cs, tt)), (((loosen g cg, (omega arith, tt)), (ce, tt)), tt))

-- the bodies that say that two sets have the same members, and the same elements
pub same_scoped : (b s t : Tree) → b ≡ same_body s t → IsClosed s → IsClosed t → IsScoped 1 b
same_scoped b s t q cs ct = subst (IsScoped 1) (sym q) (members-scoped s cs, (members-scoped t ct, tt))

pub elements_scoped : (b s t : Tree) → b ≡ elements_body s t → IsClosed s → IsClosed t → IsScoped 1 b
elements_scoped b s t q cs ct = subst (IsScoped 1) (sym q) ((omega arith, (loosen s cs, tt)), ((omega arith, (loosen t ct, tt)), tt))

-- what the body says at c
pub same_at : (b s t c x : Tree) → b ≡ same_body s t → IsClosed s → IsClosed t → IsClosed c → x ≡ inst b c → x ≡ iff_ (member_at c s) (member_at c t)
same_at b s t c x q cs ct cc_ e = e ∙ (λ i. inst (q i) c) ∙ (λ i. iff_ (members-inst c cc_ s cs i) (members-inst c cc_ t ct i))

pub iff_parts : (x y l r : Tree) → iff_ x y ≡ iff_ l r → (x ≡ l) × (y ≡ r)
iff_parts x y l r e = (cc, cc)

-- an equation with no function constructor on one side, and on none
pub values_first : (s e g : Tree) (p : Proof) → is_fun g ≡ false → function_values_by (eq_ (fun_ s e) g) p ≡ described_by g s e p
values_first s e (fun_ t d) p q = absurd (never q)
  where
    never : true ≡ false → ⊥
    never q = cc
values_first s e g p q = refl

pub values_none : (a b : Tree) (p : Proof) → is_fun a ≡ false → is_fun b ≡ false → function_values_by (eq_ a b) p ≡ p
values_none a (fun_ t d) p q r = absurd (never r)
  where
    never : true ≡ false → ⊥
    never q = cc
values_none (fun_ t d) b p q r = absurd (never q)
  where
    never : true ≡ false → ⊥
    never q = cc
values_none a b p q r = refl
