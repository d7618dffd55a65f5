-- Where a rule splits, the entry dies on the second side only if it dies on the first.
use Rattle.std.proofs.Common.{◌≡◌, Bool, true, false, not, List, [], ◌∷◌, refl, sym, subst, ◌∙◌}
use Rattle.std.specs.Prelude.{Option, Some, None, nat_eq}
use Rattle.std.proofs.lemmas.Bool.{false≢true}
use Rattle.core_expr.specs.Tree.{Tree, not_, eq_, fun_, dom_, apply_}
use Rattle.core_expr.specs.Tree.Tree.{bound}
use Rattle.core_expr.specs.Put.{shift}
use Rattle.core_expr.specs.Terms.{same}
use Rattle.seq_calculus.specs.Calculus.{AllClosed}
use Rattle.search_definition.specs.declared.rule.Rank.{Rank}
use Rattle.search_definition.specs.declared.rule.Rank.TheVariants as rank
use Rattle.search_definition.specs.declared.rule.Rule.{Rule}
use Rattle.search_definition.specs.declared.rule.Rule.TheVariants.{SameMembers, FunctionValues, OtherFunction, Instance, Spare, TakenUp}
use Rattle.search_definition.specs.Terms.{if_so, either, after, or_else, first_some}
use Rattle.search_definition.specs.Branches.{Branch, alive, has, formulas}
use Rattle.search_definition.specs.Rules.{Sides, Step, Result, gives, rank_of, stays, stays_second}
use Rattle.search_definition.specs.Rules.Sides.{Alone, Both}
use Rattle.search_definition.specs.Equations.{is_set, same_members, is_fun, lacks, at_all, step_if, derive_set, derive_fun, Described, other_function, describes, derive_not, derive}
use Rattle.search_definition.specs.Instances.{mapped, Fresh, Place, instance_step, at_place, instance_rule, spare_at, spare_rule, found_term, new_term, spare_term, by_count, places}
use Rattle.search_definition.specs.Search.{by_rank, first_rule}
use Rattle.search_definition.proofs.Standing.{oldest_is}
use Rattle.search_definition.proofs.Telling.{rule_tells}
use Rattle.branch_state.specs.Shown.{Placed}
use Rattle.tableau_search.specs.Entries.{branch_of, AreClosed}
use Rattle.tableau_search.proofs.ClosedLaws.{first_applies, all_closed}

-- the entry dies on the second side only if it dies on the first
abbrev pub IsSplitRule : Rule → Type 0
IsSplitRule r = stays r ≡ true → stays_second r ≡ true

-- it does, where there are two sides
abbrev IsFine : Rule → Sides → Type 0
IsFine r (Alone fs) = Unit {0}
IsFine r (Both fs gs) = IsSplitRule r

fine_rule : (r : Rule) (s : Sides) → IsSplitRule r → IsFine r s
fine_rule r (Alone fs) h = tt
fine_rule r (Both fs gs) h = h

-- ranks whose rules that let the entry live let it live on both sides
abbrev is_calm : Rank → Bool
is_calm rank.Derive = false
is_calm rank.Instance = false
is_calm rank.Spare = false
is_calm _ = true

not_calm : (j k : Rank) → j ≡ k → is_calm j ≡ false → is_calm k ≡ true → ⊥
not_calm j k e f h = false≢true (sym f ∙ subst (λ i. is_calm i ≡ true) (sym e) h)

calm_rule : (r : Rule) (k : Rank) → rank_of r ≡ k → is_calm k ≡ true → IsSplitRule r
calm_rule SameMembers k e c h = absurd (not_calm rank.Derive k e refl c)
calm_rule FunctionValues k e c h = absurd (not_calm rank.Derive k e refl c)
calm_rule OtherFunction k e c h = absurd (not_calm rank.Derive k e refl c)
calm_rule Instance k e c h = absurd (not_calm rank.Instance k e refl c)
calm_rule Spare k e c h = absurd (not_calm rank.Spare k e refl c)
calm_rule TakenUp k e c h = refl
calm_rule _ k e c h = absurd (false≢true h)

-- a rule of such a rank
calm : (w : Fresh) (b : Branch) (k : Rank) (r : Result) → is_calm k ≡ true → AllClosed (formulas b) → by_rank w b k ≡ Some r → IsFine r.step.rule r.step.sides
calm w b k r c a h = fine_rule r.step.rule r.step.sides (calm_rule r.step.rule k (rule_tells w b k r a h).4 c)

-- one side alone

abbrev IsAlone : Sides → Type 0
IsAlone (Alone fs) = Unit {0}
IsAlone (Both fs gs) = ⊥

alone_fine : (r : Rule) (s : Sides) → IsAlone s → IsFine r s
alone_fine r (Alone fs) h = tt
alone_fine r (Both fs gs) h = absurd h

abbrev OneStep : Option Step → Type 0
OneStep None = Unit {0}
OneStep (Some s) = IsAlone s.sides

one_if : (x y : Bool) (o : Option Step) → OneStep o → OneStep (step_if x (step_if y o))
one_if true true o h = h
one_if true false o h = tt
one_if false y o h = tt

one_else : (o p : Option Step) → OneStep o → OneStep p → OneStep (or_else o p)
one_else None p h k = k
one_else (Some s) p h k = h

one_after : (f : Described → Option Step) (o : Option Described) → ((d : Described) → OneStep (f d)) → OneStep (after f o)
one_after f None h = tt
one_after f (Some d) h = h d

one_set : (b : Branch) (s t : Tree) → OneStep (derive_set b s t)
one_set b s t = one_if (either (is_set s) (is_set t)) (not (has b (same_members s t))) (gives SameMembers (eq_ s t ∷ []) [] (same_members s t ∷ [])) tt

one_fun : (b : Branch) (f g u : Tree) → OneStep (derive_fun b f g u)
one_fun b f g (fun_ s e) =
    one_if (not (either (is_fun g) (same e (apply_ (shift 0 1 g) (bound 0))))) (lacks b (eq_ (dom_ g) s) (at_all g s e)) (gives FunctionValues (f ∷ []) (g ∷ []) (eq_ (dom_ g) s ∷ at_all g s e ∷ [])) tt
one_fun b f g _ = tt

one_other : (b : Branch) (f g u : Tree) (d : Described) → OneStep (other_function b f g u d)
one_other b f g u d = go (not (has b (not_ (eq_ d.function u))))
  where
    go : (x : Bool) → OneStep (step_if x (gives OtherFunction (f ∷ d.formula ∷ []) (g ∷ []) (not_ (eq_ d.function u) ∷ [])))
    go true = tt
    go false = tt

one_not : (b : Branch) (f g u : Tree) → OneStep (derive_not b f g u)
one_not b f g u =
    one_if (is_fun u) (not (is_fun g)) (after (other_function b f g u) (first_some (describes g) (alive b))) (one_after (other_function b f g u) (first_some (describes g) (alive b)) (one_other b f g u))

one_derive : (b : Branch) (f : Tree) → OneStep (derive b f)
one_derive b (eq_ s t) =
    one_else (derive_set b s t) (or_else (derive_fun b (eq_ s t) s t) (derive_fun b (eq_ s t) t s)) (one_set b s t)
    (one_else (derive_fun b (eq_ s t) s t) (derive_fun b (eq_ s t) t s) (one_fun b (eq_ s t) s t) (one_fun b (eq_ s t) t s))
one_derive b (not_ (eq_ s t)) =
    one_else (derive_not b (not_ (eq_ s t)) s t) (derive_not b (not_ (eq_ s t)) t s) (one_not b (not_ (eq_ s t)) s t) (one_not b (not_ (eq_ s t)) t s)
one_derive b _ = tt

abbrev OneResult : Option Result → Type 0
OneResult None = Unit {0}
OneResult (Some r) = IsAlone r.step.sides

one_mapped : (k : Rule) (p : Place) (o : Option Tree) → OneResult (mapped (instance_step k p) o)
one_mapped k p None = tt
one_mapped k p (Some t) = tt

one_so : (t : Bool) (o : Option Result) → OneResult o → OneResult (if_so t o None)
one_so true o h = h
one_so false o h = tt

one_first : (f : Place → Option Result) (ps : List Place) → ((p : Place) → OneResult (f p)) → OneResult (first_some f ps)
one_first f [] h = tt
one_first f (p ∷ ps) h = go (f p) (h p) (one_first f ps h)
  where
    go : (o : Option Result) → OneResult o → OneResult (first_some f ps) → OneResult (or_else o (first_some f ps))
    go None a b = b
    go (Some r) a b = a

one_instance : (w : Fresh) (b : Branch) → OneResult (instance_rule w b)
one_instance w b = one_first (at_place b w) (by_count (places 0 b)) (λ p. one_mapped Instance p (found_term b w p.universal))

one_spare : (w : Fresh) (b : Branch) → OneResult (spare_rule w b)
one_spare w b = one_first (spare_at b w) (places 0 b) (λ p. one_so (nat_eq p.count 0) (mapped (instance_step Spare p) (new_term b p.universal (spare_term w))) (one_mapped Spare p (new_term b p.universal (spare_term w))))

-- the rule of any rank
rank_fine : (w : Fresh) (b : Branch) (k : Rank) (r : Result) → AllClosed (formulas b) → by_rank w b k ≡ Some r → IsFine r.step.rule r.step.sides
rank_fine w b rank.Derive r a h = let o = oldest_is (derive b) b r h in alone_fine r.step.rule r.step.sides (subst OneStep o.2 (one_derive b o.0))
rank_fine w b rank.Instance r a h = alone_fine r.step.rule r.step.sides (subst OneResult h (one_instance w b))
rank_fine w b rank.Spare r a h = alone_fine r.step.rule r.step.sides (subst OneResult h (one_spare w b))
rank_fine w b rank.Plain r a h = calm w b rank.Plain r refl a h
rank_fine w b rank.Rewrite r a h = calm w b rank.Rewrite r refl a h
rank_fine w b rank.Replace r a h = calm w b rank.Replace r refl a h
rank_fine w b rank.Settle r a h = calm w b rank.Settle r refl a h
rank_fine w b rank.Choice r a h = calm w b rank.Choice r refl a h
rank_fine w b rank.Split r a h = calm w b rank.Split r refl a h
rank_fine w b rank.TermSplit r a h = calm w b rank.TermSplit r refl a h
rank_fine w b rank.Extension r a h = calm w b rank.Extension r refl a h
rank_fine w b rank.TakeUp r a h = calm w b rank.TakeUp r refl a h

-- the first rule, where it splits
pub split_rule : (w : Fresh) (ts : List Tree) (es : List Placed) (r : Result) (ls rs : List Tree) → AreClosed ts es → first_rule w (branch_of ts es) ≡ Some r → r.step.sides ≡ Both ls rs → IsSplitRule r.step.rule
split_rule w ts es r ls rs a h e =
    let k = first_applies w (branch_of ts es) r h in
    subst (IsFine r.step.rule) e (rank_fine w (branch_of ts es) k.0 r (all_closed ts es a) k.1)
