-- What the rules ask and add.
use Rattle.std.proofs.Common.{◌≡◌, ℕ, ◌<◌, Bool, true, false, cond, IsTrue, ◌↔◌, ◌⊎◌, inl, inr, Option, Some, None, List, [], ◌∷◌, length, refl, sym, subst}
use Rattle.std.proofs.lemmas.Bool.{false≢true}
use Rattle.core_expr.specs.Tree.{Tree, choose_, not_, eq_}
use Rattle.core_expr.specs.Put.{inst, IsScoped}
use Rattle.core_expr.specs.Heads.{kind_at, kind_table}
use Rattle.core_expr.specs.Nodes.{node_fits, node_make}
use Rattle.term_bank.specs.Banks.{Extends, HasTree, tree_at}
use Rattle.seq_calculus.specs.Calculus.{Has, Fits, premises}
use Rattle.seq_calculus.specs.Calculus.Rule.{AllR, ExL}
use Rattle.proof_checker.specs.declared.rule.Connective.{Connective}
use Rattle.proof_checker.specs.declared.rule.Connective.TheVariants.{AndL, AndR, OrL, OrR, ImpL, ImpR, IffL, IffR}
use Rattle.proof_checker.specs.declared.side.Side.{Side}
use Rattle.proof_checker.specs.Rules.{connective_rule, head_of, is_left}
use Rattle.proof_checker.specs.Sides.{seen, AreFormulas}
use Rattle.proof_checker.specs.Plans.{plan_of, sequents, PlanBelow, Plans, Opens, left_plan, right_plan}
use Rattle.proof_checker.proofs.SideLaws.{Has-closed, seen_closed, seen-extend, tree-extend}

pub connective_fits : (c : Connective) → IsTrue (node_fits (head_of c) [] 2)
unfolding kind_at kind_table
connective_fits AndL = refl
connective_fits AndR = refl
connective_fits OrL = refl
connective_fits OrR = refl
connective_fits ImpL = refl
connective_fits ImpR = refl
connective_fits IffL = refl
connective_fits IffR = refl

whole : (c : Connective) (a b : Tree) (g d : List Tree) → Has (cond (is_left c) g d) (node_make (head_of c) [] (a ∷ b ∷ [])) ≡ Fits (connective_rule c a b) g d
unfolding kind_at kind_table
whole AndL a b g d = refl
whole AndR a b g d = refl
whole OrL a b g d = refl
whole OrR a b g d = refl
whole ImpL a b g d = refl
whole ImpR a b g d = refl
whole IffL a b g d = refl
whole IffR a b g d = refl

added_are : (ts : List Tree) (c : Connective) (a b : ℕ) (g d : List Tree) → premises (connective_rule c (tree_at ts a) (tree_at ts b)) g d ≡ sequents ts (plan_of c a b) g d
added_are ts AndL a b g d = refl
added_are ts AndR a b g d = refl
added_are ts OrL a b g d = refl
added_are ts OrR a b g d = refl
added_are ts ImpL a b g d = refl
added_are ts ImpR a b g d = refl
added_are ts IffL a b g d = refl
added_are ts IffR a b g d = refl

plan_below : (n : ℕ) (c : Connective) (a b : ℕ) → a < n → b < n → PlanBelow n (plan_of c a b)
plan_below n AndL a b l m = ((l, m), tt)
plan_below n AndR a b l m = ((tt, l), (tt, m))
plan_below n OrL a b l m = ((l, tt), (m, tt))
plan_below n OrR a b l m = (tt, (l, m))
plan_below n ImpL a b l m = ((tt, l), (m, tt))
plan_below n ImpR a b l m = (l, m)
plan_below n IffL a b l m = (((l, m), tt), (tt, (l, m)))
plan_below n IffR a b l m = ((l, m), (m, l))

pub connective_plans : (ts : List Tree) (c : Connective) (a b : ℕ) (g d : List Tree) (held : Bool) → a < length ts → b < length ts → (IsTrue held ↔ Has (cond (is_left c) g d) (node_make (head_of c) [] (tree_at ts a ∷ tree_at ts b ∷ []))) → Plans ts (connective_rule c (tree_at ts a) (tree_at ts b)) g d (cond held (Some (plan_of c a b)) None)
connective_plans ts c a b g d true l m e = (coe 0 1 (i. whole c (tree_at ts a) (tree_at ts b) g d i) (e.0 refl), added_are ts c a b g d, plan_below (length ts) c a b l m)
connective_plans ts c a b g d false l m e = λ ps f q. false≢true (e.1 (coe 1 0 (i. whole c (tree_at ts a) (tree_at ts b) g d i) f))

-- the body of what is quantified
pub quantifier_fits : (h : ℕ) → (h ≡ 12) ⊎ (h ≡ 13) → IsTrue (node_fits h [] 1)
unfolding kind_at kind_table
quantifier_fits h (inl e) = subst (λ h. IsTrue (node_fits h [] 1)) (sym e) refl
quantifier_fits h (inr e) = subst (λ h. IsTrue (node_fits h [] 1)) (sym e) refl

body_scoped : (h : ℕ) (p : Tree) → (h ≡ 12) ⊎ (h ≡ 13) → IsScoped 0 (node_make h [] (p ∷ [])) → IsScoped 1 p
unfolding kind_at kind_table
body_scoped h p (inl e) c = let d : IsScoped 0 (node_make 12 [] (p ∷ [])) = subst (λ h. IsScoped 0 (node_make h [] (p ∷ []))) e c in d.1
body_scoped h p (inr e) c = let d : IsScoped 0 (node_make 13 [] (p ∷ [])) = subst (λ h. IsScoped 0 (node_make h [] (p ∷ []))) e c in d.1

pub quantified_body : (ts : List Tree) (s : Side) (h : ℕ) (p : Tree) → (h ≡ 12) ⊎ (h ≡ 13) → AreFormulas ts s.trail → Has (seen ts s) (node_make h [] (p ∷ [])) → IsScoped 1 p
quantified_body ts s h p q a k = body_scoped h p q (Has-closed (seen ts s) (node_make h [] (p ∷ [])) (seen_closed ts s a) k)

-- a step by what is chosen
all_right : (ts ts' : List Tree) (s : Side) (p : Tree) (g : List Tree) (o : Option ℕ) → AreFormulas ts s.trail → Opens ts' (seen ts s) 12 p (choose_ (not_ p)) o → Plans ts' (AllR p) g (seen ts s) (right_plan o)
unfolding kind_at kind_table
all_right ts ts' s p g (Some j) a h = (h.0, λ i. record { left = g; right = sym h.2.tree i ∷ seen ts s } ∷ [], (tt, h.2.within))
all_right ts ts' s p g None a h = λ ps f q. h f (tt, (quantified_body ts s 12 p (inl refl) a f, tt))

some_left : (ts ts' : List Tree) (s : Side) (p : Tree) (d : List Tree) (o : Option ℕ) → AreFormulas ts s.trail → Opens ts' (seen ts s) 13 p (choose_ p) o → Plans ts' (ExL p) (seen ts s) d (left_plan o)
unfolding kind_at kind_table
some_left ts ts' s p d (Some j) a h = (h.0, λ i. record { left = sym h.2.tree i ∷ seen ts s; right = d } ∷ [], (h.2.within, tt))
some_left ts ts' s p d None a h = λ ps f q. h f (tt, quantified_body ts s 13 p (inr refl) a f)

earlier : (ts ts' ts'' : List Tree) (s : Side) (h p t : ℕ) (c : Tree) (o : Option ℕ) → Extends ts ts' → AreFormulas ts s.trail → p < length ts → HasTree ts' t c → Opens ts'' (seen ts' s) h (tree_at ts' p) (tree_at ts' t) o → Opens ts'' (seen ts s) h (tree_at ts p) c o
earlier ts ts' ts'' s h p t c o x a l k w = coe 0 1 (i. Opens ts'' (seen-extend ts ts' s x a i) h (tree-extend ts ts' p x l i) (k.tree i) o) w

pub all_right_plans : (ts ts' ts'' : List Tree) (s : Side) (p t : ℕ) (g : List Tree) (o : Option ℕ) → Extends ts ts' → AreFormulas ts s.trail → p < length ts → HasTree ts' t (choose_ (not_ (tree_at ts p))) → Opens ts'' (seen ts' s) 12 (tree_at ts' p) (tree_at ts' t) o → Plans ts'' (AllR (tree_at ts p)) g (seen ts s) (right_plan o)
all_right_plans ts ts' ts'' s p t g o x a l k w = all_right ts ts'' s (tree_at ts p) g o a (earlier ts ts' ts'' s 12 p t (choose_ (not_ (tree_at ts p))) o x a l k w)

pub some_left_plans : (ts ts' ts'' : List Tree) (s : Side) (p t : ℕ) (d : List Tree) (o : Option ℕ) → Extends ts ts' → AreFormulas ts s.trail → p < length ts → HasTree ts' t (choose_ (tree_at ts p)) → Opens ts'' (seen ts' s) 13 (tree_at ts' p) (tree_at ts' t) o → Plans ts'' (ExL (tree_at ts p)) (seen ts s) d (left_plan o)
some_left_plans ts ts' ts'' s p t d o x a l k w = some_left ts ts'' s (tree_at ts p) d o a (earlier ts ts' ts'' s 13 p t (choose_ (tree_at ts p)) o x a l k w)

-- the sides of an equation on a side are closed
pub sides_closed : (ts ts' : List Tree) (s : Side) (a b : ℕ) → Extends ts ts' → AreFormulas ts s.trail → a < length ts → b < length ts → Has (seen ts s) (eq_ (tree_at ts a) (tree_at ts b)) → IsScoped 0 (tree_at ts' a) × IsScoped 0 (tree_at ts' b)
sides_closed ts ts' s a b x f l m h =
    let c = Has-closed (seen ts s) (eq_ (tree_at ts a) (tree_at ts b)) (seen_closed ts s f) h in
    (subst (λ t. IsScoped 0 t) (sym (tree-extend ts ts' a x l)) c.0, subst (λ t. IsScoped 0 t) (sym (tree-extend ts ts' b x m)) c.1.0)

-- what is put into a body, seen from before
pub earlier_inst : (ts ts' ts'' : List Tree) (h t j : ℕ) → Extends ts ts' → h < length ts → t < length ts → HasTree ts'' j (inst (tree_at ts' h) (tree_at ts' t)) → HasTree ts'' j (inst (tree_at ts h) (tree_at ts t))
earlier_inst ts ts' ts'' h t j x l m k = coe 0 1 (i. HasTree ts'' j (inst (tree-extend ts ts' h x l i) (tree-extend ts ts' t x m i))) k

pub earlier_has : (ts ts' : List Tree) (s : Side) (j : ℕ) (e : Tree) → Extends ts ts' → AreFormulas ts s.trail → HasTree ts' j e → Has (seen ts' s) (tree_at ts' j) ≡ Has (seen ts s) e
earlier_has ts ts' s j e x f k = λ i. Has (seen-extend ts ts' s x f i) (k.tree i)
