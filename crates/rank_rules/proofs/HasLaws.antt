-- What stands on a branch by numbers.
use Rattle.std.proofs.Common.{◌≡◌, ℕ, ◌<◌, Bool, true, false, nat_eq, List, [], ◌∷◌, length, refl, ◌∙◌}
use Rattle.core_expr.specs.Tree.{Tree}
use Rattle.term_bank.specs.Banks.{IsDistinct, Extends, HasTree, tree_at}
use Rattle.search_definition.specs.Terms.{either}
use Rattle.search_definition.specs.Branches.{has}
use Rattle.branch_state.specs.Shown.{Placed, stands}
use Rattle.formula_rules.proofs.Same.{same_at}
use Rattle.rank_rules.specs.Ranked.{branch_of, AreKnown}
use Rattle.rank_rules.proofs.Entries.{branch_kept}

pub has_stands : (ts : List Tree) (es : List Placed) (f : ℕ) → IsDistinct ts → AreKnown (length ts) es → f < length ts → has (branch_of ts es) (tree_at ts f) ≡ stands es f
has_stands ts [] f d k l = refl
has_stands ts (e ∷ es) f d k l = (λ i. either (same_at ts e.formula f d k.0 l i) (has_stands ts es f d k.1 l i)) ∙ go (nat_eq e.formula f)
  where
    go : (b : Bool) → either b (stands es f) ≡ elim b [ true ↦ true | false ↦ stands es f ]
    go true = refl
    go false = refl

-- the same in a shorter bank
pub has_kept : (ts ts' : List Tree) (es : List Placed) (k : ℕ) (t : Tree) (b : Bool) → Extends ts ts' → AreKnown (length ts) es → HasTree ts' k t → b ≡ has (branch_of ts' es) (tree_at ts' k) → b ≡ has (branch_of ts es) t
has_kept ts ts' es k t b x n h e = e ∙ (λ i. has (branch_kept ts ts' es x n i) (h.tree i))
