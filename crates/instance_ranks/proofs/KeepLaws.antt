-- What stays when the bank grows, and answers that there may be.
use Rattle.std.proofs.Common.{◌≡◌, ℕ, ◌<◌, Option, Some, None, Result, List, length, refl, ap, sym, ◌∙◌, subst, arith}
use Rattle.std.specs.Prelude.{IfOk}
use Rattle.core_expr.specs.Tree.{Tree}
use Rattle.core_expr.specs.Put.{IsScoped}
use Rattle.term_bank.specs.Banks.{Extends}
use Rattle.search_definition.specs.Terms.{or_else, after}
use Rattle.search_definition.specs.Instances.{new_term}
use Rattle.search_definition.proofs.Standing.{Holds}
use Rattle.seq_calculus.specs.Calculus.{IsClosed}
use Rattle.branch_state.specs.Shown.{Placed}
use Rattle.tableau_search.specs.Entries.{AreKnown, branch_of}
use Rattle.tableau_search.proofs.LiftLaws.{tree_kept, branch_kept, extends_length}
use Rattle.formula_rules.specs.declared.quantified.Quantified.{Quantified}
use Rattle.formula_rules.specs.Answers.{HasTerm, universal_of}
use Rattle.instance_terms.specs.declared.fresh.SignedAtom.{SignedAtom}
use Rattle.instance_terms.specs.Fresh.{signed_of}
use Rattle.instance_ranks.specs.declared.partners.Sought.{Sought}
use Rattle.instance_ranks.specs.Seeking.{IsBody, IsSought, aim_of, term_of, IsClosedTerm}

pub below_kept : (ts us : List Tree) (i : ℕ) → Extends ts us → i < length ts → i < length us
below_kept ts us i x l = let m = extends_length ts us x in omega (arith, l, m)

pub body_kept : (ts us : List Tree) (u : Quantified) → Extends ts us → IsBody ts u → IsBody us u
body_kept ts us u x h = record { within = below_kept ts us u.body x h.within; scoped = subst (IsScoped 1) (sym (tree_kept ts us u.body x h.within)) h.scoped }

pub sought_kept : (ts us : List Tree) (s : Sought) → Extends ts us → IsSought ts s → IsSought us s
sought_kept ts us s x h = record { body = body_kept ts us s.universal x h.body; atom = below_kept ts us s.atom.atom x h.atom }

pub universal_kept : (ts us : List Tree) (u : Quantified) → Extends ts us → IsBody ts u → universal_of us u ≡ universal_of ts u
universal_kept ts us u x h = λ i. record { holds = u.holds; body = tree_kept ts us u.body x h.within i }

pub signed_kept : (ts us : List Tree) (a : SignedAtom) → Extends ts us → a.atom < length ts → signed_of us a ≡ signed_of ts a
signed_kept ts us a x l = λ i. record { holds = a.holds; atom = tree_kept ts us a.atom x l i; metas = a.metas }

pub aim_kept : (ts us : List Tree) (es : List Placed) (s : Sought) → Extends ts us → AreKnown (length ts) es → IsSought ts s → aim_of us es s ≡ aim_of ts es s
aim_kept ts us es s x k h = λ i. record { branch = branch_kept ts us es x k i; universal = universal_kept ts us s.universal x h.body i; atom = signed_kept ts us s.atom x h.atom i }

-- terms that there may be

pub term_none : (us : List Tree) (k : Option ℕ) (o : Option Tree) → k ≡ None → HasTerm us k o → o ≡ None
term_none us k o e h = go o (subst (λ k. HasTerm us k o) e h)
  where
    go : (o : Option Tree) → HasTerm us None o → o ≡ None
    go None h = refl
    go (Some t) h = absurd h

pub term_is : (us : List Tree) (k : Option ℕ) (o : Option Tree) → HasTerm us k o → term_of us k ≡ o
term_is us None None h = refl
term_is us (Some k) (Some t) h = ap (λ t. Some t) h.tree
term_is us None (Some t) h = absurd h
term_is us (Some k) None h = absurd h

pub term_closed : (us : List Tree) (k : Option ℕ) (o : Option Tree) → HasTerm us k o → Holds IsClosed o → IsClosedTerm us k
term_closed us None o h c = tt
term_closed us (Some k) (Some t) h c = (h.within, subst (IsScoped 0) (sym h.tree) c)
term_closed us (Some k) None h c = absurd h

pub ok_term : {E : Type 0} (r : Result (Option ℕ) E) (us : List Tree) (o p : Option Tree) → o ≡ p → IfOk r (λ k. HasTerm us k o) → IfOk r (λ k. HasTerm us k p)
ok_term r us o p e h = subst (λ p. IfOk r (λ k. HasTerm us k p)) e h

-- the first answer, or the second

pub next_term : {E : Type 0} (r : Result (Option ℕ) E) (us mid : List Tree) (k : Option ℕ) (o p q : Option Tree) → k ≡ None → HasTerm mid k o → q ≡ p → IfOk r (λ k. HasTerm us k q) → IfOk r (λ k. HasTerm us k (or_else o p))
next_term r us mid k o p q e h f g = ok_term r us q (or_else o p) (f ∙ ap (λ o. or_else o p) (sym (term_none mid k o e h))) g

-- a new instance by a term that was found
pub new_by : (ts mid : List Tree) (es : List Placed) (s : Sought) (k : Option ℕ) (o : Option Tree) → Extends ts mid → AreKnown (length ts) es → IsSought ts s → HasTerm mid k o
    → after (new_term (branch_of mid es) (universal_of mid s.universal)) (term_of mid k) ≡ after (new_term (branch_of ts es) (universal_of ts s.universal)) o
new_by ts mid es s k o x a h g = λ i. after (new_term (branch_kept ts mid es x a i) (universal_kept ts mid s.universal x h.body i)) (term_is mid k o g i)
