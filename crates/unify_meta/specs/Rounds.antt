-- Rounds of the unifier by indices.
use Rattle.std.specs.Prelude.{◌≡◌, ℕ, suc, ◌<◌, Option, Some, None, List, Vec, length}
use Rattle.core_expr.specs.Tree.{Tree}
use Rattle.core_expr.specs.Nodes.{canon_sym}
use Rattle.unifier_definition.specs.Metas.{without, put}
use Rattle.unifier_definition.specs.Unify.{Binding, extended, unify}
use Rattle.term_bank.specs.Banks.{HasTree, tree_at}
use Rattle.unify_meta.specs.declared.binding.BoundMeta.{BoundMeta}
use Rattle.unify_meta.specs.declared.disagreement.Assignment.{Assignment}
use Rattle.unify_meta.specs.declared.round.Pending.{Pending}
use Rattle.unify_meta.specs.declared.round.Outcome.{Outcome}
use Rattle.unify_meta.specs.declared.round.Outcome.TheVariants.{Unified, Failed, More}
use Rattle.unify_meta.specs.Metas.{symbols}
use Rattle.unify_meta.specs.Bindings.{bindings, TermsBelow}

-- the indices are below n
pub record IsPending (n : ℕ) (p : Pending) : Type 0 where
  pub left : p.left < n
  pub right : p.right < n
  pub bound : TermsBelow n p.bound.items

-- the unifier from here, with room for n rounds
abbrev pub unify_from : ℕ → List Tree → Pending → Option (List Binding)
unify_from n ts p = unify n (symbols p.free.items) (bindings ts p.bound.items) (tree_at ts p.left) (tree_at ts p.right)

-- q is p with the metavariable bound to its term, which is put in everywhere
pub record IsBoundTo (ts now : List Tree) (p : Pending) (a : Assignment) (q : Pending) : Type 0 where
  pub free : symbols q.free.items ≡ without (canon_sym a.name 0) (symbols p.free.items)
  pub bound : bindings now q.bound.items ≡ extended (canon_sym a.name 0) (tree_at ts a.term) (bindings ts p.bound.items)
  pub left : HasTree now q.left (put (canon_sym a.name 0) (tree_at ts a.term) (tree_at ts p.left))
  pub right : HasTree now q.right (put (canon_sym a.name 0) (tree_at ts a.term) (tree_at ts p.right))
  pub below : TermsBelow (length now) q.bound.items

-- a round of the unifier, whatever room is left after it
abbrev pub IsRound : List Tree → List Tree → Pending → Outcome → Type 0
IsRound ts now p Unified = (n : ℕ) → unify_from (suc n) ts p ≡ Some (bindings ts p.bound.items)
IsRound ts now p Failed = (n : ℕ) → unify_from (suc n) ts p ≡ None
IsRound ts now p (More q) = IsPending (length now) q × ((n : ℕ) → unify_from (suc n) ts p ≡ unify_from n now q)

-- the unifier's answer by indices
abbrev pub IsAnswer : {A : Type 0} → List Tree → Option (List Binding) → Option (Vec BoundMeta A) → Type 0
IsAnswer ts m None = m ≡ None
IsAnswer ts m (Some v) = (m ≡ Some (bindings ts v.items)) × TermsBelow (length ts) v.items
