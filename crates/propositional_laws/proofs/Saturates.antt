-- The valuation of a saturated branch makes each formula on it true.
use Rattle.std.specs.Prelude.{◌≡◌, ◌⊎◌, ℕ, zero, suc, Bool, true, false, Option, Some, None, List, [], ◌∷◌, ◌++◌}
use Rattle.std.proofs.Common.{refl, ap, sym, ◌∙◌, arith, subst, inl, inr}
use Rattle.std.proofs.lemmas.Bool.{false≢true}
use Rattle.core_expr.specs.declared.head.Sym.{Sym}
use Rattle.core_expr.specs.Tree.{Tree, true_, false_, not_}
use Rattle.core_expr.specs.Tree.Tree.{app}
use Rattle.core_expr.specs.Tree.Parts.{end}
use Rattle.core_expr.specs.Terms.{same}
use Rattle.core_expr.proofs.Equal.{same-refl}
use Rattle.seq_calculus.specs.Calculus.{Has, HasAll}
use Rattle.valuation.specs.Truth.{negated, Valuation, value_under, AllHold}
use Rattle.search_definition.specs.declared.rule.Clash.{Clash}
use Rattle.search_definition.specs.declared.rule.Clash.TheVariants.{Denied}
use Rattle.search_definition.specs.declared.rule.Rank.TheVariants as rank
use Rattle.search_definition.specs.Terms.{either, when, or_else, first_some}
use Rattle.search_definition.specs.Branches.{Entry, Branch, formulas, has, closing, closing_from, closes_with, shuts_first, is_not_of, alone, partner}
use Rattle.search_definition.specs.Rules.{Step, Result, at_entry, at_live, oldest}
use Rattle.search_definition.specs.Plain.{plain}
use Rattle.search_definition.specs.Splits.{split}
use Rattle.search_definition.specs.Instances.{Fresh}
use Rattle.search_definition.specs.Search.{denied, start, fresh}
use Rattle.search_definition.specs.Laws.{FirstIsByRank}
use Rattle.search_definition.proofs.Standing.{Each, has-stands}
use Rattle.propositional_laws.specs.Formulas.{Formula}
use Rattle.propositional_laws.specs.Formulas.Formula.{f_true, f_false, f_symbol, f_not, f_and, f_or, f_imp, f_iff}
use Rattle.propositional_laws.specs.Valuations.{valuation_of}
use Rattle.propositional_laws.specs.Laws.{SaturatedFalsifies}
use Rattle.propositional_laws.proofs.Forms.{weight}
use Rattle.propositional_laws.proofs.Values.{negated-false, hold-split, TrueBelow}
use Rattle.propositional_laws.proofs.Steps.{Why}
use Rattle.propositional_laws.proofs.Turns.{Good, Keeps, IsStuck, Ends, search-ends}

none-both : {A : Type 0} (x y : Option A) → or_else x y ≡ None → (x ≡ None) × (y ≡ None)
none-both None y h = (refl, h)
none-both (Some z) y h = cc

-- a formula that does not close by itself or with one of the older
alone-none : (f : Tree) (o : Option Clash) → alone f o ≡ None → o ≡ None
alone-none f None h = refl
alone-none f (Some k) h = cc

-- neither is the Not of the other
abbrev Unlike : Tree → Tree → Type 0
Unlike f g = either (is_not_of f g) (is_not_of g f) ≡ false

when-none : {A : Type 0} (x : Bool) (y : A) → when x y ≡ None → x ≡ false
when-none true y h = cc
when-none false y h = refl

older-unlike : (f : Tree) (older : List Tree) → first_some (partner Denied is_not_of f) older ≡ None → (g : Tree) → Has older g → Unlike f g
older-unlike f [] h g k = absurd k
older-unlike f (x ∷ older) h g (inl e) = subst (Unlike f) e (when-none (either (is_not_of f x) (is_not_of x f)) _ (none-both (partner Denied is_not_of f x) (first_some (partner Denied is_not_of f) older) h).0)
older-unlike f (x ∷ older) h g (inr k) = older-unlike f older (none-both (partner Denied is_not_of f x) (first_some (partner Denied is_not_of f) older) h).1 g k

-- What is known of formulas that do not close with these older ones.
record Unclosed (older fs : List Tree) : Type 0 where
  lone : (f : Tree) → Has fs f → shuts_first f ≡ None
  pairs : (f g : Tree) → Has fs f → Has older g ⊎ Has fs g → (f ≡ g) ⊎ Unlike f g

either-swap : (x y : Bool) → either x y ≡ false → either y x ≡ false
either-swap x true h = go x h
  where
    go : (x : Bool) → either x true ≡ false → true ≡ false
    go true h = h
    go false h = h
either-swap true false h = h
either-swap false false h = h

last-one : (older : List Tree) (f : Tree) → Has (older ++ f ∷ []) f
last-one [] f = inl refl
last-one (x ∷ older) f = inr (last-one older f)

one-more : (older : List Tree) (f g : Tree) → Has older g → Has (older ++ f ∷ []) g
one-more [] f g h = absurd h
one-more (x ∷ older) f g (inl e) = inl e
one-more (x ∷ older) f g (inr h) = inr (one-more older f g h)

-- one more formula
extend : (older fs : List Tree) (x : Tree) → closes_with older x ≡ None → Unclosed (older ++ x ∷ []) fs → Unclosed older (x ∷ fs)
extend older fs x c u = record { lone = lone; pairs = pairs }
  where
    here : (shuts_first x ≡ None) × (first_some (partner Denied is_not_of x) older ≡ None)
    here =
        let t = none-both (alone x (shuts_first x)) _ c in
        (alone-none x (shuts_first x) t.0, (none-both (first_some (partner Denied is_not_of x) older) _ t.1).0)

    lone : (f : Tree) → Has (x ∷ fs) f → shuts_first f ≡ None
    lone f (inl e) = subst (λ z. shuts_first z ≡ None) e here.0
    lone f (inr k) = u.lone f k

    swapped : (g : Tree) → (g ≡ x) ⊎ Unlike g x → (x ≡ g) ⊎ Unlike x g
    swapped g (inl e) = inl (sym e)
    swapped g (inr k) = inr (either-swap (is_not_of g x) (is_not_of x g) k)

    first : (g : Tree) → Has older g ⊎ Has (x ∷ fs) g → (x ≡ g) ⊎ Unlike x g
    first g (inl k) = inr (older-unlike x older here.1 g k)
    first g (inr (inl e)) = inl e
    first g (inr (inr k)) = swapped g (u.pairs g x k (inl (last-one older x)))

    further : (g : Tree) → Has older g ⊎ Has (x ∷ fs) g → Has (older ++ x ∷ []) g ⊎ Has fs g
    further g (inl k) = inl (one-more older x g k)
    further g (inr (inl e)) = inl (subst (Has (older ++ x ∷ [])) e (last-one older x))
    further g (inr (inr k)) = inr k

    pairs : (f g : Tree) → Has (x ∷ fs) f → Has older g ⊎ Has (x ∷ fs) g → (f ≡ g) ⊎ Unlike f g
    pairs f g (inl e) m = subst (λ z. (z ≡ g) ⊎ Unlike z g) e (first g m)
    pairs f g (inr k) m = u.pairs f g k (further g m)

unclosed : (older fs : List Tree) → closing_from older fs ≡ None → Unclosed older fs
unclosed older [] h = record { lone = λ f k. absurd k; pairs = λ f g k m. absurd k }
unclosed older (x ∷ fs) h = let t = none-both (closes_with older x) (closing_from (older ++ x ∷ []) fs) h in extend older fs x t.0 (unclosed (older ++ x ∷ []) fs t.1)

has-complete : (b : Branch) (f : Tree) → Has (formulas b) f → has b f ≡ true
has-complete [] f h = absurd h
has-complete (e ∷ b) f (inl q) = subst (λ z. either (same e.formula z) (has b z) ≡ true) q (ap (λ x. either x (has b e.formula)) (same-refl e.formula))
has-complete (e ∷ b) f (inr h) = go (same e.formula f) (has-complete b f h)
  where
    go : (x : Bool) → has b f ≡ true → either x (has b f) ≡ true
    go true q = refl
    go false q = q

-- a symbol and its Not do not both stand on a branch that does not close
symbol-clash : (b : Branch) (s : Sym) → Unclosed [] (formulas b) → Has (formulas b) (app s end) → Has (formulas b) (not_ (app s end)) → ⊥
symbol-clash b s u h k = apart (u.pairs (app s end) (not_ (app s end)) h (inr k))
  where
    apart : (app s end ≡ not_ (app s end)) ⊎ Unlike (app s end) (not_ (app s end)) → ⊥
    apart (inl e) = cc
    apart (inr e) = false≢true (sym e ∙ same-refl (app s end))

-- a formula that no rule fits is true under the branch's valuation
literal-true : (b : Branch) (f : Tree) → Formula f → plain f ≡ None → split f ≡ None → Unclosed [] (formulas b) → Has (formulas b) f → value_under (valuation_of b) f ≡ true
literal-true b _ f_true e q u h = refl
literal-true b _ f_false e q u h = let k : shuts_first false_ ≡ None = u.lone false_ h in cc
literal-true b _ (f_symbol s) e q u h = has-complete b (app s end) h
literal-true b _ (f_not f_true) e q u h = let k : shuts_first (not_ true_) ≡ None = u.lone (not_ true_) h in cc
literal-true b _ (f_not f_false) e q u h = refl
literal-true b _ (f_not (f_symbol s)) e q u h = go (has b (app s end)) refl
  where
    go : (x : Bool) → has b (app s end) ≡ x → negated x ≡ true
    go true k = absurd (symbol-clash b s u (has-stands b (app s end) k) h)
    go false k = refl
literal-true b _ (f_not (f_not p)) e q u h = cc
literal-true b _ (f_not (f_and p r)) e q u h = cc
literal-true b _ (f_not (f_or p r)) e q u h = cc
literal-true b _ (f_not (f_imp p r)) e q u h = cc
literal-true b _ (f_not (f_iff p r)) e q u h = cc
literal-true b _ (f_and p r) e q u h = cc
literal-true b _ (f_or p r) e q u h = cc
literal-true b _ (f_imp p r) e q u h = cc
literal-true b _ (f_iff p r) e q u h = cc

-- no rule fits a live entry
abbrev Idle : (Tree → Option Step) → Entry → Type 0
Idle rule e = e.live ≡ true → rule e.formula ≡ None

idle : (rule : Tree → Option Step) (i : ℕ) (b : Branch) → oldest rule i b ≡ None → Each (Idle rule) b
idle rule i [] h = tt
idle rule i (e ∷ b) h = let k = none-both (at_entry i (at_live rule e.live e.formula)) (oldest rule (suc i) b) h in (go e.live (rule e.formula) k.0, idle rule (suc i) b k.1)
  where
    step-none : (o : Option Step) → at_entry i o ≡ None → o ≡ None
    step-none None h = refl
    step-none (Some s) h = cc

    go : (l : Bool) (o : Option Step) → at_entry i (at_live rule l e.formula) ≡ None → l ≡ true → rule e.formula ≡ None
    go true o h k = step-none (rule e.formula) h
    go false o h k = cc

module _ (c : Branch) (u : Unclosed [] (formulas c)) where
  -- each formula on a part of a saturated branch is explained or true
  explained : (b : Branch) → Each (Good c) b → Each (Idle plain) b → Each (Idle split) b → (f : Tree) → Has (formulas b) f → Has (formulas c) f → Why c f ⊎ (value_under (valuation_of c) f ≡ true)
  explained [] g i j f h m = absurd h
  explained (e ∷ b) g i j f (inr h) m = explained b g.1 i.1 j.1 f h m
  explained (e ∷ b) g i j f (inl t) m = subst (λ z. Why c z ⊎ (value_under (valuation_of c) z ≡ true)) t (this e.live refl)
    where
      this : (l : Bool) → e.live ≡ l → Why c e.formula ⊎ (value_under (valuation_of c) e.formula ≡ true)
      this true l = inr (literal-true c e.formula g.0.0 (i.0 l) (j.0 l) u (subst (Has (formulas c)) (sym t) m))
      this false l = inl (g.0.1 l)

  true-below : ((f : Tree) → Has (formulas c) f → Why c f ⊎ (value_under (valuation_of c) f ≡ true)) → (n : ℕ) → TrueBelow (valuation_of c) c n
  true-below k zero f h l = absurd (omega (arith, l))
  true-below k (suc n) f h l = go (k f h) (true-below k n)
    where
      go : Why c f ⊎ (value_under (valuation_of c) f ≡ true) → TrueBelow (valuation_of c) c n → value_under (valuation_of c) f ≡ true
      go (inl y) t = y (valuation_of c) (λ g m s. t g m (omega (arith, l, s)))
      go (inr e) t = e

no-answer : (o : Option Result) → ((r : Result) → o ≡ Some r → ⊥) → o ≡ None
no-answer None k = refl
no-answer (Some r) k = absurd (k r refl)

all-hold : (v : Valuation) (b : Branch) (fs : List Tree) → ((f : Tree) → Has (formulas b) f → value_under v f ≡ true) → HasAll (formulas b) fs → AllHold v fs
all-hold v b [] h k = tt
all-hold v b (f ∷ fs) h k = (h f k.0, all-hold v b fs h k.1)

saturated-true : FirstIsByRank → (w : Fresh) (all : List Tree) (b : Branch) → Keeps all b → IsStuck w b → (f : Tree) → Has (formulas b) f → value_under (valuation_of b) f ≡ true
unfolding closing
saturated-true first w all b k s f h =
    let u : Unclosed [] (formulas b) = unclosed [] (formulas b) s.0 in
    let none = (first w b).1.0 s.1 in
    let i : oldest plain 0 b ≡ None = no-answer (oldest plain 0 b) (λ r e. none r (rank.Plain, e)) in
    let j : oldest split 0 b ≡ None = no-answer (oldest split 0 b) (λ r e. none r (rank.Split, e)) in
    true-below b u (λ g m. explained b u b k.entries (idle plain 0 b i) (idle split 0 b j) g m m) (suc (weight f)) f h (omega arith)

pub saturated_falsifies : FirstIsByRank → SaturatedFalsifies
saturated_falsifies first facts goal p q limit m b h =
    let t : Keeps (denied facts goal) b × IsStuck (fresh facts goal) b = subst (Ends (denied facts goal) (fresh facts goal) limit (start facts goal)) h (search-ends facts goal limit p q) in
    let a = hold-split (valuation_of b) facts (not_ goal ∷ []) (all-hold (valuation_of b) b (denied facts goal) (saturated-true first (fresh facts goal) (denied facts goal) b t.0 t.1) t.0.started) in
    (a.0, negated-false (value_under (valuation_of b) goal) a.1.0)
