-- Whether a formula is new, by its value.
use Rattle.std.proofs.Common.{◌≡◌, ℕ, ◌<◌, Bool, true, false, Some, None, List, length, ap, sym, ◌∙◌, subst}
use Rattle.std.specs.Prelude.{not}
use Rattle.core_expr.specs.Tree.{Tree}
use Rattle.term_bank.specs.Banks.{IsDistinct, Extends, HasTree, tree_at}
use Rattle.search_definition.specs.Terms.{either, when}
use Rattle.search_definition.specs.Values.{Truth, truth, is_yes}
use Rattle.search_definition.specs.Instances.{Universal, instance, is_new, new_term}
use Rattle.branch_state.specs.Shown.{Placed, stands}
use Rattle.tableau_search.specs.Entries.{AreKnown, branch_of}
use Rattle.tableau_search.proofs.LiftLaws.{lift_has, branch_kept}
use Rattle.formula_rules.specs.Answers.{HasTerm}

pub stands_old : (ts : List Tree) (es : List Placed) (f : ℕ) (b : Bool) → IsDistinct ts → AreKnown (length ts) es → f < length ts → b ≡ stands es f → b ≡ true → false ≡ is_new (branch_of ts es) (tree_at ts f)
stands_old ts es f b d a l e h = ap (λ x. not (either x (is_yes (truth (branch_of ts es) (tree_at ts f))))) (sym h ∙ e ∙ sym (lift_has ts d es f a l))

pub value_new : (ts : List Tree) (es : List Placed) (f : ℕ) (b : Bool) (v : Truth) → IsDistinct ts → AreKnown (length ts) es → f < length ts → b ≡ stands es f → b ≡ false → v ≡ truth (branch_of ts es) (tree_at ts f) → not (is_yes v) ≡ is_new (branch_of ts es) (tree_at ts f)
value_new ts es f b v d a l e h q = λ i. not (either ((sym h ∙ e ∙ sym (lift_has ts d es f a l)) i) (is_yes (q i)))

-- the instance is new, or not
instance_new : (ts mid : List Tree) (es : List Placed) (u : Universal) (t : Tree) (f : ℕ) (b c : Bool) → Extends ts mid → AreKnown (length ts) es → HasTree mid f (instance u t) → b ≡ is_new (branch_of mid es) (tree_at mid f) → b ≡ c → c ≡ is_new (branch_of ts es) (instance u t)
instance_new ts mid es u t f b c x a h e q = sym q ∙ e ∙ (λ i. is_new (branch_kept ts mid es x a i) (h.tree i))

pub term_new : (ts mid now : List Tree) (es : List Placed) (u : Universal) (t f k : ℕ) (b : Bool) → Extends ts mid → AreKnown (length ts) es → HasTree mid f (instance u (tree_at ts t)) → b ≡ is_new (branch_of mid es) (tree_at mid f) → b ≡ true → HasTree now k (tree_at ts t)
    → HasTerm now (Some k) (new_term (branch_of ts es) u (tree_at ts t))
term_new ts mid now es u t f k b x a h e q g = subst (λ v. HasTerm now (Some k) (when v (tree_at ts t))) (instance_new ts mid es u (tree_at ts t) f b true x a h e q) g

pub term_old : (ts mid now : List Tree) (es : List Placed) (u : Universal) (t f : ℕ) (b : Bool) → Extends ts mid → AreKnown (length ts) es → HasTree mid f (instance u (tree_at ts t)) → b ≡ is_new (branch_of mid es) (tree_at mid f) → b ≡ false
    → HasTerm now None (new_term (branch_of ts es) u (tree_at ts t))
term_old ts mid now es u t f b x a h e q = subst (λ v. HasTerm now None (when v (tree_at ts t))) (instance_new ts mid es u (tree_at ts t) f b false x a h e q) tt
