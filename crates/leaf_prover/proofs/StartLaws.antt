-- Facts and a goal in a bank.
use Rattle.std.specs.Prelude.{◌≡◌, ℕ, zero, suc, ◌+◌, ◌<◌, ◌≤◌, true, List, [], ◌∷◌, ◌++◌, length}
use Rattle.std.proofs.Common.{ap, sym, ◌∙◌, subst, get_or, drop, arith}
use Rattle.std.proofs.lemmas.Bool.{and_parts}
use Rattle.std.proofs.lemmas.List.{drop_more, drop_all}
use Rattle.core_expr.specs.Tree.{Tree, not_}
use Rattle.core_expr.specs.Heads.{is_canonical, IsCanonical}
use Rattle.core_expr.specs.Terms.{is_scoped}
use Rattle.term_bank.specs.Banks.{Extends, HasTree, tree_at}
use Rattle.search_definition.specs.Search.{denied}
use Rattle.term_bank.proofs.InstLaws.{Extends-trans}
use Rattle.term_shapes.specs.Forms.{ArePlaced}
use Rattle.formula_rules.proofs.Listing.{IsListing, listing_step, listing_ends}
use Rattle.proof_checker.specs.Runs.{AreCanonical}
use Rattle.leaf_prover.specs.Forms.{is_form_part, are_form_parts}

pub canonical_part : (e : Tree) → is_form_part e ≡ true → IsCanonical e
canonical_part e h = (and_parts (is_canonical e) (is_scoped 0 e) h).0

pub all_canonical : (es : List Tree) → are_form_parts es ≡ true → AreCanonical es
all_canonical [] h = tt
all_canonical (e ∷ es) h = let p = and_parts (is_form_part e) (are_form_parts es) h in (canonical_part e p.0, all_canonical es p.1)

pub canonical_at : (es : List Tree) (i : ℕ) (e : Tree) → are_form_parts es ≡ true → i < length es → e ≡ get_or es i e → IsCanonical e
canonical_at [] i e h l q = absurd (omega arith)
canonical_at (x ∷ es) zero e h l q = subst (λ t. IsCanonical t) (sym q) (canonical_part x (and_parts (is_form_part x) (are_form_parts es) h).0)
canonical_at (x ∷ es) (suc i) e h l q = canonical_at es i e (and_parts (is_form_part x) (are_form_parts es) h).1 (omega arith) q

-- the facts from the i-th on are to come
pub facts_more : (ts ts' : List Tree) (is is' : List ℕ) (facts : List Tree) (i k : ℕ) (e : Tree) → Extends ts ts' → IsListing ts is (drop i facts) facts → i < length facts → e ≡ get_or facts i e → HasTree ts' k e
    → is' ≡ is ++ k ∷ [] → IsListing ts' is' (drop (i + 1) facts) facts
facts_more ts ts' is is' facts i k e x a l q h p = listing_step ts ts' is is' k e (drop (i + 1) facts) facts x (subst (λ us. IsListing ts is us facts) (drop_more facts i e l ∙ ap (λ t. t ∷ drop (i + 1) facts) (sym q)) a) h p

pub facts_all : (ts : List Tree) (is : List ℕ) (facts : List Tree) (i : ℕ) → length facts ≤ i → IsListing ts is (drop i facts) facts → ArePlaced ts facts is
facts_all ts is facts i l a = listing_ends ts is facts (subst (λ us. IsListing ts is us facts) (drop_all i facts l) a)

-- and then the Not of the goal
pub denied_placed : (ts us vs : List Tree) (is is' : List ℕ) (facts : List Tree) (goal : Tree) (g k : ℕ) → Extends ts us → Extends us vs → ArePlaced ts facts is → HasTree us g goal → HasTree vs k (not_ (tree_at us g)) → is' ≡ is ++ k ∷ []
    → ArePlaced vs (denied facts goal) is'
denied_placed ts us vs is is' facts goal g k x y a h d e =
    let start : IsListing ts is (not_ goal ∷ []) (denied facts goal) = record { below = a.below; trees = ap (λ l. l ++ not_ goal ∷ []) a.trees } in
    listing_ends vs is' (denied facts goal) (listing_step ts vs is is' k (not_ goal) [] (denied facts goal) (Extends-trans ts us vs x y) start (subst (λ t. HasTree vs k (not_ t)) h.tree d) e)
