-- The first answer of the ranks.
use Rattle.std.proofs.Common.{◌≡◌, ℕ, ◌+◌, ◌<◌, ◌≤◌, List, length, get_or, drop, ap, sym, ◌∙◌, subst}
use Rattle.std.specs.Prelude.{Option, Some, None}
use Rattle.std.proofs.lemmas.List.{drop_more, drop_all}
use Rattle.core_expr.specs.Tree.{Tree}
use Rattle.term_bank.specs.Banks.{Extends}
use Rattle.search_definition.specs.declared.rule.Rank.{Rank}
use Rattle.search_definition.specs.Terms.{or_else, first_some}
use Rattle.search_definition.specs.Rules.{Result}
use Rattle.search_definition.specs.Branches.{Branch, closing}
use Rattle.search_definition.specs.Instances.{Fresh}
use Rattle.search_definition.specs.Search.{by_rank, ranks, first_rule}
use Rattle.branch_state.specs.Shown.{Placed}
use Rattle.tableau_search.specs.declared.finder.Closing.{Closing}
use Rattle.tableau_search.specs.declared.finder.Decision.TheVariants.{Stuck, Applies}
use Rattle.tableau_search.specs.declared.finder.Found.{Found}
use Rattle.tableau_search.specs.declared.finder.Found.TheVariants.{Alone, Splits}
use Rattle.tableau_search.specs.Entries.{AreKnown, branch_of}
use Rattle.tableau_search.specs.Found.{IsFound, IsAnswer, IsClosing, Decided}
use Rattle.tableau_search.proofs.LiftLaws.{known_higher, extends_length, branch_kept}

pub known_more : (ts us : List Tree) (es : List Placed) → Extends ts us → AreKnown (length ts) es → AreKnown (length us) es
known_more ts us es g a = known_higher (length ts) (length us) es (extends_length ts us g) a

-- one rank has no answer; w is w2, and b the branch c after formulas came
pub rank_none : (w w2 : Fresh) (b c : Branch) (xs : List Rank) (i : ℕ) (d : Rank) → i < length xs → w ≡ w2 → b ≡ c → by_rank w b (get_or xs i d) ≡ None → first_some (by_rank w2 c) xs ≡ first_some (by_rank w2 c) (drop i xs)
    → first_some (by_rank w2 b) xs ≡ first_some (by_rank w2 b) (drop (i + 1) xs)
rank_none w w2 b c xs i d l p q e h =
    let f : Rank → Option Result = by_rank w2 b in
    let n : by_rank w2 b (get_or xs i d) ≡ None = subst (λ v. by_rank v b (get_or xs i d) ≡ None) p e in
    let k : first_some (by_rank w2 b) xs ≡ first_some (by_rank w2 b) (drop i xs) = subst (λ x. first_some (by_rank w2 x) xs ≡ first_some (by_rank w2 x) (drop i xs)) (sym q) h in
    k ∙ ap (first_some f) (drop_more xs i d l) ∙ ap (λ o. or_else o (first_some f (drop (i + 1) xs))) n

-- one has this answer
found_at : (f : Rank → Option Result) (xs : List Rank) (i : ℕ) (d : Rank) → i < length xs → first_some f xs ≡ first_some f (drop i xs) → (ts : List Tree) (es : List Placed) (a : Found) → IsFound ts es (f (get_or xs i d)) a
    → IsFound ts es (first_some f xs) a
found_at f xs i d l h ts es (Alone u ns) (e, g, k) =
    (h ∙ ap (first_some f) (drop_more xs i d l) ∙ ap (λ o. or_else o (first_some f (drop (i + 1) xs))) e, g, k)
found_at f xs i d l h ts es (Splits u ns ms) (e, g, k, m) =
    (h ∙ ap (first_some f) (drop_more xs i d l) ∙ ap (λ o. or_else o (first_some f (drop (i + 1) xs))) e, g, k, m)

pub rank_some : (w w2 : Fresh) (b c : Branch) (xs : List Rank) (i : ℕ) (d : Rank) → i < length xs → w ≡ w2 → b ≡ c → first_some (by_rank w2 c) xs ≡ first_some (by_rank w2 c) (drop i xs) → (ts : List Tree) (es : List Placed) (a : Found)
    → IsFound ts es (by_rank w b (get_or xs i d)) a → IsFound ts es (first_some (by_rank w2 b) xs) a
rank_some w w2 b c xs i d l p q h ts es a e =
    let n : IsFound ts es (by_rank w2 b (get_or xs i d)) a = subst (λ v. IsFound ts es (by_rank v b (get_or xs i d)) a) p e in
    let k : first_some (by_rank w2 b) xs ≡ first_some (by_rank w2 b) (drop i xs) = subst (λ x. first_some (by_rank w2 x) xs ≡ first_some (by_rank w2 x) (drop i xs)) (sym q) h in
    found_at (by_rank w2 b) xs i d l k ts es a n

-- none has an answer
pub rank_end : (f : Rank → Option Result) (xs : List Rank) (i : ℕ) → length xs ≤ i → first_some f xs ≡ first_some f (drop i xs) → first_some f xs ≡ None
rank_end f xs i l h = h ∙ ap (first_some f) (drop_all i xs l)

pub answer_none : (ts : List Tree) (es : List Placed) (r : Option Result) (o : Option Found) → IsAnswer ts es r o → o ≡ None → r ≡ None
answer_none ts es r o h e = subst (λ x. IsAnswer ts es r x) e h

pub answer_some : (ts : List Tree) (es : List Placed) (r : Option Result) (o : Option Found) (f : Found) → IsAnswer ts es r o → o ≡ Some f → IsFound ts es r f
answer_some ts es r o f h e = subst (λ x. IsAnswer ts es r x) e h

-- what is decided where the branch does not close

pub decided_found : (w w2 : Fresh) (ts us : List Tree) (es : List Placed) (o : Option Found) (f : Found) → w ≡ w2 → Extends ts us → AreKnown (length ts) es → closing (branch_of ts es) ≡ None → IsAnswer us es (first_some (by_rank w (branch_of us es)) ranks) o → o ≡ Some f
    → Decided w2 us es (Applies f)
unfolding first_rule
decided_found w w2 ts us es o f p g a c h e =
    (ap closing (branch_kept ts us es g a) ∙ c, subst (λ v. IsFound us es (first_some (by_rank v (branch_of us es)) ranks) f) p (answer_some us es (first_some (by_rank w (branch_of us es)) ranks) o f h e))

pub decided_none : (w w2 : Fresh) (ts us : List Tree) (es : List Placed) (o : Option Found) → w ≡ w2 → Extends ts us → AreKnown (length ts) es → closing (branch_of ts es) ≡ None → IsAnswer us es (first_some (by_rank w (branch_of us es)) ranks) o → o ≡ None
    → Decided w2 us es Stuck
unfolding first_rule
decided_none w w2 ts us es o p g a c h e =
    (ap closing (branch_kept ts us es g a) ∙ c, subst (λ v. first_some (by_rank v (branch_of us es)) ranks ≡ None) p (answer_none us es (first_some (by_rank w (branch_of us es)) ranks) o h e))

pub open_branch : (ts : List Tree) (es : List Placed) (o : Option Closing) → IsClosing ts es o → o ≡ None → closing (branch_of ts es) ≡ None
open_branch ts es o h e = subst (λ x. IsClosing ts es x) e h
