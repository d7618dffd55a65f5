-- Forms of goals as the code tests them.
use Rattle.std.proofs.Common.{◌≡◌, Bool, true, false, ◌&&◌, cond, List, refl, sym, ap, ◌∙◌}
use Rattle.std.specs.Prelude.{Option, Some, None}
use Rattle.core_expr.specs.Tree.{Tree}
use Rattle.core_expr.specs.Tree.Tree.{bound}
use Rattle.core_expr.specs.Terms.{same}
use Rattle.core_expr.specs.Equal.{same-true, true-same}
use Rattle.obligation.specs.declared.obligation.Definition.{Definition}
use Rattle.known_facts.specs.declared.item.Quantifier.{Quantifier}
use Rattle.known_facts.specs.declared.item.Quantifier.TheVariants.{All, Exists}
use Rattle.known_facts.specs.Forms.{as_quantified, as_restricted}
use Rattle.proof_contexts.specs.Contexts.{Context, Pair, as_in, given, same_set, if_within, within}
use Rattle.proof_leaves.specs.Forms.{is_domain, body_over}

pub same_yes : (a b : Tree) → a ≡ b → true ≡ same a b
same_yes a b h = sym (true-same a b h)

pub same_no : (a b : Tree) → (a ≡ b → ⊥) → false ≡ same a b
same_no a b h = go (same a b) refl
  where
    go : (x : Bool) → same a b ≡ x → false ≡ x
    go true q = absurd (h (same-true a b q))
    go false q = refl

-- ---- bounded forms

module _ (table : List Definition) where
  within-is : (c : Context) (s : Tree) (q : Pair) → within table c s (Some q) ≡ cond (is_domain table c s q.first) (Some q.second) None
  within-is c s q = go (as_in q.first)
    where
      go : (o : Option Pair) → given o None (λ m. if_within table c s m q.second) ≡ cond (given o false (λ m. same m.first (bound 0) && same_set table c m.second s)) (Some q.second) None
      go None = refl
      go (Some m) = refl

  pub no_quantifier : (q : Quantifier) (c : Context) (s e : Tree) → None ≡ as_quantified q e → None ≡ body_over table q c s e
  no_quantifier All c s e h = ap (λ o. given o None (λ b. within table c s (as_restricted All b))) h
  no_quantifier Exists c s e h = ap (λ o. given o None (λ b. within table c s (as_restricted Exists b))) h

  body-is : (q : Quantifier) (c : Context) (s e b : Tree) → Some b ≡ as_quantified q e → within table c s (as_restricted q b) ≡ body_over table q c s e
  body-is All c s e b h = ap (λ o. given o None (λ b. within table c s (as_restricted All b))) h
  body-is Exists c s e b h = ap (λ o. given o None (λ b. within table c s (as_restricted Exists b))) h

  pub no_restriction : (q : Quantifier) (c : Context) (s e b : Tree) → Some b ≡ as_quantified q e → None ≡ as_restricted q b → None ≡ body_over table q c s e
  no_restriction q c s e b h r = ap (within table c s) r ∙ body-is q c s e b h

  restriction-is : (q : Quantifier) (c : Context) (s e b : Tree) (p : Pair) → Some b ≡ as_quantified q e → Some p ≡ as_restricted q b → cond (is_domain table c s p.first) (Some p.second) None ≡ body_over table q c s e
  restriction-is q c s e b p h r = sym (within-is c s p) ∙ ap (within table c s) r ∙ body-is q c s e b h

  pub other_domain : (q : Quantifier) (c : Context) (s e b d f : Tree) → Some b ≡ as_quantified q e → Some (record { first = d; second = f }) ≡ as_restricted q b → false ≡ is_domain table c s d → None ≡ body_over table q c s e
  other_domain q c s e b d f h r n = ap (λ x. cond x (Some f) None) n ∙ restriction-is q c s e b (record { first = d; second = f }) h r

  pub this_domain : (q : Quantifier) (c : Context) (s e b d f : Tree) → Some b ≡ as_quantified q e → Some (record { first = d; second = f }) ≡ as_restricted q b → true ≡ is_domain table c s d → Some f ≡ body_over table q c s e
  this_domain q c s e b d f h r n = ap (λ x. cond x (Some f) None) n ∙ restriction-is q c s e b (record { first = d; second = f }) h r

  pub no_membership : (c : Context) (s d : Tree) → None ≡ as_in d → false ≡ is_domain table c s d
  no_membership c s d h = ap (λ o. given o false (λ m. same m.first (bound 0) && same_set table c m.second s)) h

  membership-is : (c : Context) (s d x t : Tree) → Some (record { first = x; second = t }) ≡ as_in d → (same x (bound 0) && same_set table c t s) ≡ is_domain table c s d
  membership-is c s d x t h = ap (λ o. given o false (λ m. same m.first (bound 0) && same_set table c m.second s)) h

  pub other_element : (c : Context) (s d x t : Tree) → Some (record { first = x; second = t }) ≡ as_in d → false ≡ same x (bound 0) → false ≡ is_domain table c s d
  other_element c s d x t h n = ap (λ b. b && same_set table c t s) n ∙ membership-is c s d x t h

  pub set_decides : (c : Context) (s d x t : Tree) (b : Bool) → Some (record { first = x; second = t }) ≡ as_in d → true ≡ same x (bound 0) → b ≡ same_set table c t s → b ≡ is_domain table c s d
  set_decides c s d x t b h n r = r ∙ ap (λ y. y && same_set table c t s) n ∙ membership-is c s d x t h
