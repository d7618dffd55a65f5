-- On a branch of propositional formulas every rank but plain, settle and split gives nothing.
use Rattle.std.specs.Prelude.{◌≡◌, ℕ, suc, Bool, true, false, Option, Some, None, List, [], ◌∷◌}
use Rattle.std.proofs.Common.{refl, ap, sym, ◌∙◌, subst}
use Rattle.core_expr.specs.Tree.{Tree}
use Rattle.seq_calculus.specs.Calculus.{Has}
use Rattle.search_definition.specs.declared.rule.Rank.{Rank}
use Rattle.search_definition.specs.declared.rule.Rank.TheVariants as rank
use Rattle.search_definition.specs.Terms.{if_so, after, first_some, closed_subterms, first_at}
use Rattle.search_definition.specs.Branches.{Branch, formulas, alive, shuts_third, shuts_last, is_mirror_not}
use Rattle.search_definition.specs.Rules.{Step, Result, oldest}
use Rattle.search_definition.specs.Plain.{plain, rewrite_of, rewritten, rewrite, choice}
use Rattle.search_definition.specs.Equations.{derive, sides_of, by_sides, by_equation, extension}
use Rattle.search_definition.specs.Splits.{settle, split, of_literal, is_literal, split_term, split_at, term_split, untaken, taken_up, take_up}
use Rattle.search_definition.specs.Instances.{Fresh, Universal, Place, universal, place_before, places, by_count, at_place, spare_at}
use Rattle.search_definition.specs.Search.{by_rank, ranks, first_rule}
use Rattle.search_definition.specs.Watches.{LiveAt}
use Rattle.search_definition.proofs.Standing.{Holds, held, after-holds, first-holds, each, alive-stand, live-stands, oldest_is}
use Rattle.propositional_laws.specs.Formulas.{Formula, Formulas}
use Rattle.propositional_laws.specs.Formulas.Formula.{f_true, f_false, f_symbol, f_not, f_and, f_or, f_imp, f_iff}
use Rattle.propositional_laws.proofs.Forms.{each-at, each-map, subterms-formed}
use Rattle.propositional_laws.proofs.Steps.{Does, plain-does, settle-does, split-does}

-- no rule and no closing fits that looks at anything but connectives
abbrev pub Bare : Branch → Tree → Type 0
Bare b f =
    (rewrite_of f ≡ None) × (derive b f ≡ None) × (sides_of f ≡ None) × (choice f ≡ None) × (split_term b f ≡ None) × (extension f ≡ None) × (universal f ≡ None) × (untaken b f ≡ None)
    × (shuts_third f ≡ None) × (shuts_last f ≡ None) × ((g : Tree) → is_mirror_not f g ≡ false)

pub bare : (b : Branch) (f : Tree) → Formula f → Bare b f
bare b _ f_true = (refl, refl, refl, refl, refl, refl, refl, refl, refl, refl, λ g. refl)
bare b _ f_false = (refl, refl, refl, refl, refl, refl, refl, refl, refl, refl, λ g. refl)
bare b _ (f_symbol s) = (refl, refl, refl, refl, refl, refl, refl, refl, refl, refl, λ g. refl)
bare b _ (f_not f_true) = (refl, refl, refl, refl, refl, refl, refl, refl, refl, refl, λ g. refl)
bare b _ (f_not f_false) = (refl, refl, refl, refl, refl, refl, refl, refl, refl, refl, λ g. refl)
bare b _ (f_not (f_symbol s)) = (refl, refl, refl, refl, refl, refl, refl, refl, refl, refl, λ g. refl)
bare b _ (f_not (f_not p)) = (refl, refl, refl, refl, refl, refl, refl, refl, refl, refl, λ g. refl)
bare b _ (f_not (f_and p q)) = (refl, refl, refl, refl, refl, refl, refl, refl, refl, refl, λ g. refl)
bare b _ (f_not (f_or p q)) = (refl, refl, refl, refl, refl, refl, refl, refl, refl, refl, λ g. refl)
bare b _ (f_not (f_imp p q)) = (refl, refl, refl, refl, refl, refl, refl, refl, refl, refl, λ g. refl)
bare b _ (f_not (f_iff p q)) = (refl, refl, refl, refl, refl, refl, refl, refl, refl, refl, λ g. refl)
bare b _ (f_and p q) = (refl, refl, refl, refl, refl, refl, refl, refl, refl, refl, λ g. refl)
bare b _ (f_or p q) = (refl, refl, refl, refl, refl, refl, refl, refl, refl, refl, λ g. refl)
bare b _ (f_imp p q) = (refl, refl, refl, refl, refl, refl, refl, refl, refl, refl, λ g. refl)
bare b _ (f_iff p q) = (refl, refl, refl, refl, refl, refl, refl, refl, refl, refl, λ g. refl)

-- Where a rule comes from: the live entry that it uses, and what it does there.
pub record Acts (b : Branch) (r : Result) : Type 0 where
  pub formula : Tree
  pub formed : Formula formula
  pub live : LiveAt b r.entry formula
  pub does : Does b formula r.step

-- where there is no answer, any answer has what is asked
pub none-holds : {B : Type 0} (P : B → Type 0) (o : Option B) → o ≡ None → Holds P o
none-holds P o e = subst (Holds P) (sym e) tt

abbrev Never : {B : Type 0} → B → Type 0
Never x = ⊥

at-none : {B : Type 0} (r : Tree → Option B) → ((f : Tree) → Formula f → r f ≡ None) → (f : Tree) → Formula f → Holds Never (first_at r f)
at-none r none f p = first-holds Never r Formula (λ g q. none-holds Never (r g) (none g q)) (closed_subterms f) (subterms-formed f p)

-- nothing is made of no answer
after-none : {A B : Type 0} (P : B → Type 0) (g : A → Option B) (o : Option A) → Holds Never o → Holds P (after g o)
after-none P g o h = after-holds P g Never (λ x e. absurd e) o h

literal-holds : (P : Step → Type 0) (x : Bool) (o : Option Step) → Holds P o → Holds P (of_literal x o)
literal-holds P true o h = h
literal-holds P false o h = tt

module _ (w : Fresh) (b : Branch) (p : Formulas (formulas b)) where
  oldest-acts : (rule : Tree → Option Step) → ((f : Tree) → Formula f → Holds (Does b f) (rule f)) → Holds (Acts b) (oldest rule 0 b)
  oldest-acts rule k = go (oldest rule 0 b) refl
    where
      go : (o : Option Result) → oldest rule 0 b ≡ o → Holds (Acts b) o
      go None e = tt
      go (Some r) e =
          let f = oldest_is rule b r e in
          let q : Formula f.0 = each-at Formula (formulas b) f.0 p (live-stands b r.entry f.0 f.1) in
          record { formula = f.0; formed = q; live = f.1; does = held (Does b f.0) (rule f.0) r.step f.2 (k f.0 q) }

  no-places : (i : ℕ) (c : Branch) → Formulas (formulas c) → places i c ≡ []
  no-places i [] h = refl
  no-places i (e ∷ c) h = go e.live (universal e.formula) (bare b e.formula h.0).6 (no-places (suc i) c h.1)
    where
      go : (l : Bool) (o : Option Universal) → o ≡ None → places (suc i) c ≡ [] → if_so l (place_before i e.count e.formula o (places (suc i) c)) (places (suc i) c) ≡ []
      go true None q k = k
      go true (Some u) q k = cc
      go false o q k = k

  -- a search through the universals finds none
  no-place : (g : Place → Option Result) → (order : List Place → List Place) → order [] ≡ [] → Holds (Acts b) (first_some g (order (places 0 b)))
  no-place g order e = none-holds (Acts b) (first_some g (order (places 0 b))) (ap (λ ps. first_some g (order ps)) (no-places 0 b p) ∙ ap (first_some g) e)

  rank-acts : (k : Rank) → Holds (Acts b) (by_rank w b k)
  rank-acts rank.Plain = oldest-acts plain (plain-does b)
  rank-acts rank.Rewrite = oldest-acts rewrite (λ f q. after-none (Does b f) (rewritten f) (first_at rewrite_of f) (at-none rewrite_of (λ g s. (bare b g s).0) f q))
  rank-acts rank.Derive = oldest-acts (derive b) (λ f q. none-holds (Does b f) (derive b f) (bare b f q).1)
  rank-acts rank.Replace =
      first-holds (Acts b) (by_equation b) Formula (λ f q. after-none (Acts b) (by_sides b f) (sides_of f) (none-holds Never (sides_of f) (bare b f q).2))
      (alive b) (each-map (Has (formulas b)) Formula (λ f h. each-at Formula (formulas b) f p h) (alive b) (alive-stand b))
  rank-acts rank.Settle = oldest-acts (settle b) (settle-does b)
  rank-acts rank.Choice = oldest-acts choice (λ f q. none-holds (Does b f) (choice f) (bare b f q).3)
  rank-acts rank.Split = oldest-acts split (split-does b)
  rank-acts rank.TermSplit =
      oldest-acts (term_split b) (λ f q. literal-holds (Does b f) (is_literal f) _ (after-none (Does b f) (split_at b f) (first_at (split_term b) f) (at-none (split_term b) (λ g s. (bare b g s).4) f q)))
  rank-acts rank.Extension = oldest-acts extension (λ f q. none-holds (Does b f) (extension f) (bare b f q).5)
  rank-acts rank.Instance = no-place (at_place b w) by_count refl
  rank-acts rank.Spare = no-place (spare_at b w) (λ ps. ps) refl
  rank-acts rank.TakeUp =
      oldest-acts (take_up b) (λ f q. literal-holds (Does b f) (is_literal f) _ (after-none (Does b f) (taken_up f) (first_at (untaken b) f) (at-none (untaken b) (λ g s. (bare b g s).7) f q)))

  pub rule-acts : (r : Result) → first_rule w b ≡ Some r → Acts b r
  unfolding first_rule
  rule-acts r e = held (Acts b) (first_rule w b) r e (first-holds (Acts b) (by_rank w b) (λ k. Unit {0}) (λ k u. rank-acts k) ranks (each (λ k. Unit {0}) (λ k. tt) ranks))
