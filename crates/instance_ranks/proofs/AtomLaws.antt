-- Sides of an atom, and what an atom gives when the bank grows.
use Rattle.std.proofs.Common.{◌≡◌, ℕ, ◌<◌, Bool, true, false, None, List, length, ap, sym, ◌∙◌, subst}
use Rattle.core_expr.specs.Tree.{Tree}
use Rattle.core_expr.specs.declared.head.Sym.{Sym}
use Rattle.term_bank.specs.Banks.{Extends, tree_at}
use Rattle.search_definition.specs.Terms.{if_so, first_some}
use Rattle.search_definition.specs.Branches.{alive}
use Rattle.search_definition.specs.Instances.{Fresh, own_metas, is_side}
use Rattle.branch_state.specs.Shown.{Placed}
use Rattle.tableau_search.specs.Entries.{AreKnown, branch_of}
use Rattle.tableau_search.proofs.LiftLaws.{tree_kept, branch_kept}
use Rattle.formula_rules.specs.Answers.{HasTerm}
use Rattle.instance_terms.specs.Fresh.{signed_of}
use Rattle.instance_ranks.specs.declared.partners.Sought.{Sought}
use Rattle.instance_ranks.specs.declared.entries.Partner.TheVariants.{Side}
use Rattle.instance_ranks.specs.Seeking.{IsSought, aim_of}
use Rattle.instance_ranks.specs.Partners.{subterms_at, partner_at}
use Rattle.instance_ranks.specs.Atoms.{of_side}
use Rattle.instance_ranks.proofs.KeepLaws.{aim_kept}

tested : (ts : List Tree) (w : Fresh) (s : Sought) (l : ℕ) (ms : List Sym) (b c : Bool) → ms ≡ own_metas w (signed_of ts s.atom) → b ≡ is_side ms (tree_at ts l) → b ≡ c → c ≡ is_side (own_metas w (signed_of ts s.atom)) (tree_at ts l)
tested ts w s l ms b c q e f = sym f ∙ e ∙ ap (λ ms. is_side ms (tree_at ts l)) q

pub side_none : (ts mid : List Tree) (es : List Placed) (w : Fresh) (s : Sought) (l : ℕ) (ms : List Sym) (b : Bool) → ms ≡ own_metas w (signed_of ts s.atom) → b ≡ is_side ms (tree_at ts l) → b ≡ false → HasTerm mid None (of_side w (aim_of ts es s) (tree_at ts l))
side_none ts mid es w s l ms b q e f =
    subst (λ b. HasTerm mid None (if_so b (first_some (subterms_at w (aim_of ts es s) (tree_at ts l)) (alive (branch_of ts es))) None)) (tested ts w s l ms b false q e f) tt

pub side_some : (ts mid : List Tree) (es : List Placed) (w : Fresh) (s : Sought) (l : ℕ) (ms : List Sym) (b : Bool) → ms ≡ own_metas w (signed_of ts s.atom) → b ≡ is_side ms (tree_at ts l) → b ≡ true → Extends ts mid → AreKnown (length ts) es → IsSought ts s → l < length ts
    → first_some (partner_at mid w (Side l) (aim_of mid es s)) (alive (branch_of mid es)) ≡ of_side w (aim_of ts es s) (tree_at ts l)
side_some ts mid es w s l ms b q e f x k h m =
    (λ i. first_some (subterms_at w (aim_kept ts mid es s x k h i) (tree_kept ts mid l x m i)) (alive (branch_kept ts mid es x k i)))
    ∙ ap (λ b. if_so b (first_some (subterms_at w (aim_of ts es s) (tree_at ts l)) (alive (branch_of ts es))) None) (tested ts w s l ms b true q e f)

pub side_stays : (ts mid : List Tree) (es : List Placed) (w : Fresh) (s : Sought) (l : ℕ) → Extends ts mid → AreKnown (length ts) es → IsSought ts s → l < length ts → of_side w (aim_of mid es s) (tree_at mid l) ≡ of_side w (aim_of ts es s) (tree_at ts l)
side_stays ts mid es w s l x k h m = λ i. of_side w (aim_kept ts mid es s x k h i) (tree_kept ts mid l x m i)
