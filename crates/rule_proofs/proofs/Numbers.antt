-- Numbers of expressions: the same number says the same tree.
use Rattle.std.specs.Prelude.{◌≡◌, ℕ, ◌<◌, Bool, true, false, nat_eq, List, [], ◌∷◌, length}
use Rattle.std.proofs.Common.{get_or, refl, ap, sym, ◌∙◌, rules}
use Rattle.std.proofs.lemmas.Bool.{eqb-true}
use Rattle.core_expr.specs.Tree.{Tree, true_}
use Rattle.core_expr.specs.Terms.{same}
use Rattle.core_expr.specs.Nodes.{picked}
use Rattle.core_expr.proofs.Equal.{same-refl, same-true}
use Rattle.seq_calculus.specs.Calculus.Rule.{FalseL}
use Rattle.search_definition.specs.declared.rule.Clash.{Clash}
use Rattle.term_bank.specs.Banks.{IsDistinct}
use Rattle.proof_writer.specs.Shapes.{leaf}
use Rattle.proof_trees.specs.Closings.{entries_by}

pub number_same : (ts : List Tree) (a b : ℕ) → IsDistinct ts → a < length ts → b < length ts → nat_eq a b ≡ same (get_or ts a true_) (get_or ts b true_)
number_same ts a b d la lb = go (nat_eq a b) refl (same (get_or ts a true_) (get_or ts b true_)) refl
  where
    equal : (n : ℕ) → nat_eq n n ≡ true
    equal n = search rules

    go : (x : Bool) → nat_eq a b ≡ x → (y : Bool) → same (get_or ts a true_) (get_or ts b true_) ≡ y → x ≡ y
    go true e true q = refl
    go false e false q = refl
    go true e false q = absurd (never (sym q ∙ sym (ap (λ n. same (get_or ts a true_) (get_or ts n true_)) (eqb-true a b e)) ∙ same-refl (get_or ts a true_)))
      where
        never : false ≡ true → ⊥
        never e = cc
    go false e true q = absurd (never (sym e ∙ ap (nat_eq a) (sym (d a b la lb (same-true (get_or ts a true_) (get_or ts b true_) q))) ∙ equal a))
      where
        never : false ≡ true → ⊥
        never e = cc

-- a closing by neither one formula nor two
pub entries_other : (k : Clash) (ts : List Tree) (is : List ℕ) → nat_eq (length is) 1 ≡ false → nat_eq (length is) 2 ≡ false → entries_by k (picked ts is) ≡ leaf FalseL
entries_other k ts [] p q = refl
entries_other k ts (a ∷ []) p q = cc
entries_other k ts (a ∷ b ∷ []) p q = cc
entries_other k ts (a ∷ b ∷ c ∷ is) p q = refl
