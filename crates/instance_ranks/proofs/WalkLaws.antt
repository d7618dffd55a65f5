-- Walks along atoms, terms and live entries: the first answer.
use Rattle.std.proofs.Common.{◌≡◌, ℕ, zero, suc, ◌+◌, ◌<◌, Bool, true, false, Option, Some, None, List, [], ◌∷◌, length, get_or, drop, refl, ap, sym, ◌∙◌, subst, arith}
use Rattle.std.proofs.lemmas.List.{drop_more}
use Rattle.core_expr.specs.Tree.{Tree}
use Rattle.core_expr.specs.Nodes.{AreBelow, picked}
use Rattle.term_bank.specs.Banks.{Extends, tree_at}
use Rattle.search_definition.specs.Terms.{if_so, or_else, first_some}
use Rattle.search_definition.specs.Branches.{alive}
use Rattle.search_definition.specs.Instances.{Fresh, Signed, by_atom}
use Rattle.branch_state.specs.Shown.{Placed, placed_at, no_place}
use Rattle.tableau_search.specs.Entries.{AreKnown, branch_of}
use Rattle.tableau_search.proofs.LiftLaws.{tree_kept, branch_kept, known_at}
use Rattle.formula_rules.specs.declared.quantified.Quantified.{Quantified}
use Rattle.formula_rules.specs.Answers.{HasTerm, universal_of}
use Rattle.instance_terms.specs.declared.fresh.SignedAtom.{SignedAtom}
use Rattle.instance_terms.specs.Fresh.{signed_of}
use Rattle.instance_terms.specs.Tasks.{signeds, AtomsBelow}
use Rattle.instance_ranks.specs.declared.partners.Sought.{Sought}
use Rattle.instance_ranks.specs.declared.entries.Partner.{Partner}
use Rattle.instance_ranks.specs.declared.entries.Partner.TheVariants.{Literal, Opposite, Side}
use Rattle.instance_ranks.specs.Seeking.{IsBody, IsSought, aim_of}
use Rattle.instance_ranks.specs.Partners.{atom_at, subterm_at, subterms_at, partner_at, IsPartner, entry_gives}
use Rattle.instance_ranks.proofs.KeepLaws.{below_kept, aim_kept, signed_kept, universal_kept, term_none}

-- one more element has no answer, and one has one
pub walk_miss : (mid : List Tree) (k : Option ℕ) (now o p rest whole : Option Tree) → now ≡ or_else o rest → now ≡ whole → p ≡ o → k ≡ None → HasTerm mid k p → rest ≡ whole
walk_miss mid k now o p rest whole e h q n g = ap (λ x. or_else x rest) (sym (term_none mid k p n g) ∙ q) ∙ sym e ∙ h

pub walk_hit : (mid : List Tree) (k : Option ℕ) (t : ℕ) (now o p rest whole : Option Tree) → now ≡ or_else o rest → now ≡ whole → p ≡ o → k ≡ Some t → HasTerm mid k p → HasTerm mid (Some t) whole
walk_hit mid k t now o p rest whole e h q n g = subst (HasTerm mid (Some t)) (sym e ∙ h) (go o (subst (HasTerm mid (Some t)) q (subst (λ k. HasTerm mid k p) n g)))
  where
    go : (o : Option Tree) → HasTerm mid (Some t) o → HasTerm mid (Some t) (or_else o rest)
    go (Some x) h = h
    go None h = absurd h

-- atoms

pub atom_below : (n : ℕ) (xs : List SignedAtom) (i : ℕ) (d : SignedAtom) → AtomsBelow n xs → i < length xs → (get_or xs i d).atom < n
atom_below n [] i d b l = absurd (omega (arith, l))
atom_below n (x ∷ xs) zero d b l = b.0
atom_below n (x ∷ xs) (suc i) d b l = atom_below n xs i d b.1 (omega (arith, l))

pub atoms_next : {B : Type 0} (g : Signed → Option B) (ts : List Tree) (xs : List SignedAtom) (i : ℕ) (d : SignedAtom) → i < length xs → first_some g (signeds ts (drop i xs)) ≡ or_else (g (signed_of ts (get_or xs i d))) (first_some g (signeds ts (drop (i + 1) xs)))
atoms_next g ts xs i d l = ap (λ ys. first_some g (signeds ts ys)) (drop_more xs i d l)

-- terms

pub index_below : (n : ℕ) (is : List ℕ) (i d : ℕ) → AreBelow n is → i < length is → get_or is i d < n
index_below n [] i d b l = absurd (omega (arith, l))
index_below n (x ∷ is) zero d b l = b.0
index_below n (x ∷ is) (suc i) d b l = index_below n is i d b.1 (omega (arith, l))

pub terms_next : {B : Type 0} (g : Tree → Option B) (ts : List Tree) (is : List ℕ) (i d : ℕ) → i < length is → first_some g (picked ts (drop i is)) ≡ or_else (g (tree_at ts (get_or is i d))) (first_some g (picked ts (drop (i + 1) is)))
terms_next g ts is i d l = ap (λ ys. first_some g (picked ts ys)) (drop_more is i d l)

-- live entries

pub entries_next : {B : Type 0} (g : Tree → Option B) (ts : List Tree) (es : List Placed) (i : ℕ) → i < length es
    → first_some g (alive (branch_of ts (drop i es))) ≡ or_else (if_so (placed_at es i).live (g (tree_at ts (placed_at es i).formula)) None) (first_some g (alive (branch_of ts (drop (i + 1) es))))
entries_next {B} g ts es i l = ap (λ ps. first_some g (alive (branch_of ts ps))) (drop_more es i no_place l) ∙ go (placed_at es i).live
  where
    rest : Option B
    rest = first_some g (alive (branch_of ts (drop (i + 1) es)))

    x : Tree
    x = tree_at ts (placed_at es i).formula

    go : (b : Bool) → first_some g (if_so b (x ∷ alive (branch_of ts (drop (i + 1) es))) (alive (branch_of ts (drop (i + 1) es)))) ≡ or_else (if_so b (g x) None) rest
    go true = refl
    go false = refl

-- what stays of an element's answer when the bank grows

pub atom_stays : (ts us : List Tree) (es : List Placed) (w : Fresh) (s : Sought) (c : SignedAtom) → Extends ts us → AreKnown (length ts) es → IsSought ts s → c.atom < length ts → atom_at w (aim_of us es s) (signed_of us c) ≡ atom_at w (aim_of ts es s) (signed_of ts c)
atom_stays ts us es w s c x k h l = λ i. atom_at w (aim_kept ts us es s x k h i) (signed_kept ts us c x l i)

pub subterm_stays : (ts us : List Tree) (es : List Placed) (w : Fresh) (s : Sought) (l t : ℕ) → Extends ts us → AreKnown (length ts) es → IsSought ts s → l < length ts → t < length ts
    → subterm_at w (aim_of us es s) (tree_at us l) (tree_at us t) ≡ subterm_at w (aim_of ts es s) (tree_at ts l) (tree_at ts t)
subterm_stays ts us es w s l t x k h m n = λ i. subterm_at w (aim_kept ts us es s x k h i) (tree_kept ts us l x m i) (tree_kept ts us t x n i)

pub partner_stays : (ts us : List Tree) (es : List Placed) (w : Fresh) (s : Sought) (p : Partner) (f g : Tree) → Extends ts us → AreKnown (length ts) es → IsSought ts s → IsPartner ts p → f ≡ g → partner_at us w p (aim_of us es s) f ≡ partner_at ts w p (aim_of ts es s) g
partner_stays ts us es w s Literal f g x k h n e = λ i. partner_at ts w Literal (aim_kept ts us es s x k h i) (e i)
partner_stays ts us es w s Opposite f g x k h n e = λ i. partner_at ts w Opposite (aim_kept ts us es s x k h i) (e i)
partner_stays ts us es w s (Side l) f g x k h n e =
    λ i. subterms_at w (aim_kept ts us es s x k h i) (tree_kept ts us l x n i) (e i)

pub kind_kept : (ts us : List Tree) (p : Partner) → Extends ts us → IsPartner ts p → IsPartner us p
kind_kept ts us Literal x h = tt
kind_kept ts us Opposite x h = tt
kind_kept ts us (Side l) x h = below_kept ts us l x h

pub entry_stays : (ts us : List Tree) (es : List Placed) (w : Fresh) (s : Sought) (p : Partner) (i : ℕ) → Extends ts us → AreKnown (length ts) es → IsSought ts s → IsPartner ts p → i < length es → entry_gives us es w s p i ≡ entry_gives ts es w s p i
entry_stays ts us es w s p i x k h n l =
    ap (λ o. if_so (placed_at es i).live o None) (partner_stays ts us es w s p (tree_at us (placed_at es i).formula) (tree_at ts (placed_at es i).formula) x k h n (tree_kept ts us (placed_at es i).formula x (known_at (length ts) es i k l)))

-- atoms of the universal

pub own_stays : (ts us : List Tree) (es : List Placed) (w : Fresh) (u : Quantified) (a : SignedAtom) → Extends ts us → AreKnown (length ts) es → IsBody ts u → a.atom < length ts
    → by_atom (branch_of us es) w (universal_of us u) (signed_of us a) ≡ by_atom (branch_of ts es) w (universal_of ts u) (signed_of ts a)
own_stays ts us es w u a x k h l = λ i. by_atom (branch_kept ts us es x k i) w (universal_kept ts us u x h i) (signed_kept ts us a x l i)
