-- What names have under levels of more and more parameters, and that the weights of all expressions stand.
use Rattle.std.proofs.Common.{◌≡◌, ℕ, zero, suc, ◌+◌, ◌≤◌, Bool, true, false, ◌||◌, nat_eq, if◌then◌else◌, List, [], ◌∷◌, ◌++◌, take, length, Option, Some, None, refl, sym, ap, subst, ◌∙◌, arith, append_assoc, append-nil, length-append, codes}
use Rattle.std.proofs.lemmas.List.{take-append-le}
use Rattle.tla_ast.specs.declared.place.Place.{Place}
use Rattle.tla_ast.specs.declared.tree.Decl.{Decl}
use Rattle.plain_syntax.specs.Plain.{Term, Terms, Updates, Keys, Groups, Defs}
use Rattle.plain_syntax.specs.Plain.Term.{term}
use Rattle.plain_syntax.specs.Plain.Terms.{none, part}
use Rattle.plain_syntax.specs.Plain.Shape.{name, call, prefixed, infixed, prime, except, box, angle, quantifier, choice, local, at, fair}
use Rattle.plain_syntax.specs.Plain.Updates.{end_updates, update}
use Rattle.plain_syntax.specs.Plain.Keys.{end_keys, key, field_key}
use Rattle.plain_syntax.specs.Plain.Groups.{end_groups, free, within}
use Rattle.plain_syntax.specs.Plain.Defs.{end_defs, def}
use Rattle.expression_level.specs.declared.weight.Use.{Use}
use Rattle.expression_level.specs.Levels as l
use Rattle.expression_level.specs.Levels.{Judged, Applied, Levels, higher, has_fault, told, constantly, bind, applied, is_word}
use Rattle.expression_level.specs.Weights as w
use Rattle.expression_level.specs.Scope as walk
use Rattle.expression_level.specs.Scope.{Env, at_number, known, with_local}
use Rattle.expression_level.proofs.Locals.{at-bound}
use Rattle.expression_level.specs.Weights.{Weight, Known, merged, told_by, told_from, depth_of, function_of, padded, uses_of, parameter, definition, unlimited, result_so_far, asked_round}
use Rattle.expression_level.specs.Weights.Known.{arguments, defined}
use Rattle.expression_level.proofs.Evaluation.{higher-none, merged-zero, from-none, from-zero, from-unlimited, under-fixed}
use Rattle.expression_level.proofs.Agreement.{Zeros, Stands, StandEach, Knows, stands-nothing, stands-beside, stands-fixed, stands-limited, stands-primed, stands-action, stands-if, each-before, stands-at-name}

-- ---- what one number has

function-more : (k : Known) (r more args : List ℕ) → depth_of k ≤ length r → function_of r k args ≡ function_of (r ++ more) k args
function-more arguments r more args h = refl
function-more (defined d l us b) r more args h = ap (λ ls. merged (l, b) (told_from us (ls ++ args))) (sym (take-append-le d r more h))

knows-more : (r more : List ℕ) (f : Applied) (k : Known) → Knows r f k → Knows (r ++ more) f k
knows-more r more f k n = (let e = length-append r more in let h = n.0 in omega (arith, e, h), λ args. n.1 args ∙ function-more k r more args n.0)

told-of-parameter : (d : ℕ) (r : List ℕ) (l : ℕ) (args : List ℕ) → length r ≡ d → told_from (uses_of d) (take (suc d) (r ++ l ∷ []) ++ args) ≡ (l, false)
told-of-parameter zero [] l args e = λ i. ((higher-none (higher l 0) ∙ higher-none l) i, false)
told-of-parameter zero (x ∷ r) l args e = absurd (grind arith)
told-of-parameter (suc d) [] l args e = absurd (grind arith)
told-of-parameter (suc d) (x ∷ r) l args e = merged-zero (told_from (uses_of d) (take (suc d) (r ++ l ∷ []) ++ args)) ∙ told-of-parameter d r l args (omega (arith, e))

knows-parameter : (d : ℕ) (r : List ℕ) (l : ℕ) → length r ≡ d → Knows (r ++ l ∷ []) (constantly l) (parameter d)
knows-parameter d r l e = (
  (let h = length-append r (l ∷ []) in omega (arith, e, h)),
  λ args. sym (merged-zero (told_from (uses_of d) (take (suc d) (r ++ l ∷ []) ++ args)) ∙ told-of-parameter d r l args e),
)

told-padded : (us : List Use) (n : ℕ) → told_from us (padded n []) ≡ (0, false)
told-padded [] n = refl
told-padded (u ∷ us) zero = refl
told-padded (u ∷ us) (suc n) = from-zero u 0 (told_from us (padded n [])) refl (told-padded us n)

-- the first arguments, as many as there are parameters
first : (n : ℕ) (us : List Use) (args : List ℕ) → told_from (take n us) args ≡ told_from us (padded n args)
first zero us args = sym (from-none us)
first (suc n) [] args = refl
first (suc n) (u ∷ us) [] = sym (told-padded (u ∷ us) (suc n))
first (suc n) (u ∷ us) (l ∷ args) = ap (merged (told_by u l)) (first n us args)

nothing-more : (n : ℕ) → 0 + n ≡ n
nothing-more n = omega arith

one-more : (d n : ℕ) → suc d + n ≡ suc (d + n)
one-more d n = omega arith

cut : (d : ℕ) (r : List ℕ) (n : ℕ) (us : List Use) (args : List ℕ) → length r ≡ d → told_from (take (d + n) us) (take d r ++ args) ≡ told_from us (r ++ padded n args)
cut zero [] n us args e = ap (λ m. told_from (take m us) args) (nothing-more n) ∙ first n us args
cut zero (x ∷ r) n us args e = absurd (grind arith)
cut (suc d) [] n us args e = absurd (grind arith)
cut (suc d) (x ∷ r) n [] args e = ap (λ m. told_from (take m []) (x ∷ (take d r ++ args))) (one-more d n)
cut (suc d) (x ∷ r) n (u ∷ us) args e =
    ap (λ m. told_from (take m (u ∷ us)) (x ∷ (take d r ++ args))) (one-more d n) ∙ ap (merged (told_by u x)) (cut d r n us args (omega (arith, e)))

pub knows-definition : (r : List ℕ) (d n : ℕ) (f : List ℕ → Judged) (x : Weight) → length r ≡ d → ((args : List ℕ) → Stands (r ++ padded n args) (f args) x)
    → Knows r (λ args. told (f args)) (definition d n x)
knows-definition r d n f x e s = (omega (arith, e), λ args. (s args).0 ∙ ap (merged (x.least, has_fault x.faults)) (sym (cut d r n x.uses args e)))

own : (d : ℕ) (us : List Use) (r args : List ℕ) → length r ≡ d → told_from (take d us) (take d r ++ args) ≡ told_from us r
own zero us [] args e = sym (from-none us)
own zero us (x ∷ r) args e = absurd (grind arith)
own (suc d) us [] args e = absurd (grind arith)
own (suc d) [] (x ∷ r) args e = refl
own (suc d) (u ∷ us) (x ∷ r) args e = ap (merged (told_by u x)) (own d us r args (omega (arith, e)))

knows-result : (r : List ℕ) (d : ℕ) (j : Judged) (x : Weight) → length r ≡ d → Stands r j x → Knows r (constantly j.0) (result_so_far d x)
knows-result r d j x e s = (
  omega (arith, e),
  λ args.
      (λ i. ((s.0 i).0, false))
      ∙ ap (merged (x.least, false)) (sym (from-unlimited unlimited (λ u l. refl) (take d x.uses) (take d r ++ args) ∙ (λ i. ((own d x.uses r args e i).0, false)))),
)

round : (d : ℕ) (us : List Use) (r : List ℕ) (n : ℕ) → length r ≡ d → told_from us (r ++ padded n []) ≡ told_from (take d us) r
round zero us [] n e = told-padded us n
round zero us (x ∷ r) n e = absurd (grind arith)
round (suc d) us [] n e = absurd (grind arith)
round (suc d) [] (x ∷ r) n e = refl
round (suc d) (u ∷ us) (x ∷ r) n e = ap (merged (told_by u x)) (round d us r n (omega (arith, e)))

padded-zeros : (n : ℕ) → Zeros (padded n [])
padded-zeros zero = tt
padded-zeros (suc n) = (refl, padded-zeros n)

more-zeros : (r : List ℕ) (n : ℕ) → Zeros r → Zeros (r ++ padded n [])
more-zeros [] n z = padded-zeros n
more-zeros (l ∷ r) n z = (z.0, more-zeros r n z.1)

stands-round : (r : List ℕ) (d n : ℕ) (j : Judged) (x : Weight) → length r ≡ d → Stands (r ++ padded n []) j x → Stands r (0, j.1) (asked_round d x)
stands-round r d n j x e s = (
  ap (λ y. (0, y.1)) (s.0 ∙ ap (merged (x.least, has_fault x.faults)) (round d x.uses r n e)) ∙ sym (under-fixed r 0 (record { least = 0; uses = take d x.uses; faults = x.faults })),
  λ z. s.1 (more-zeros r n z),
)

-- ---- what all numbers have

abbrev pub KnowAll : List ℕ → Levels → Env → Type 0
KnowAll r ls env = (n : ℕ) → Knows r (ls n) (at_number env n)

knows-bound : (r : List ℕ) (ls : Levels) (env : Env) (o : Option ℕ) (f : Applied) (k : Known) → KnowAll r ls env → Knows r f k → KnowAll r (bind o f ls) (with_local o k env)
knows-bound r ls env None f k a n = a
knows-bound r ls env (Some m) f k a n = λ q. subst (Knows r (bind (Some m) f ls q)) (sym (at-bound env m k q)) (by-test q (nat_eq m q))
  where
    by-test : (q : ℕ) (t : Bool) → Knows r (if t then f else ls q) (if t then k else at_number env q)
    by-test q true = n
    by-test q false = a q

knows-named : (r : List ℕ) (ls : Levels) (env : Env) (o : Option ℕ) → KnowAll r ls env → Knows r (applied ls o) (known env o)
knows-named r ls env None a = (omega arith, λ args. refl)
knows-named r ls env (Some n) a = a n

length-padded : (n : ℕ) (args : List ℕ) → length (padded n args) ≡ n
length-padded zero args = refl
length-padded (suc n) [] = ap suc (length-padded n [])
length-padded (suc n) (l ∷ args) = ap suc (length-padded n args)

length-with : (r : List ℕ) (d n : ℕ) (args : List ℕ) → length r ≡ d → length (r ++ padded n args) ≡ d + n
length-with r d n args e = let a = length-append r (padded n args) in let b = length-padded n args in omega (arith, a, b, e)

module _ (means : Place → Option ℕ) (flags : Option ℕ → List Bool) where
  knows-one : (r : List ℕ) (d : ℕ) (ls : Levels) (env : Env) (p : Decl) (l : ℕ) → length r ≡ d → KnowAll r ls env
      → KnowAll (r ++ l ∷ []) (bind (means p.place) (constantly l) ls) (with_local (means p.place) (parameter d) env)
  knows-one r d ls env p l e a =
      knows-bound (r ++ l ∷ []) ls env (means p.place) (constantly l) (parameter d) (λ n. knows-more r (l ∷ []) (ls n) (at_number env n) (a n)) (knows-parameter d r l e)

  knows-parameters : (ps : List Decl) (args r : List ℕ) (d : ℕ) (ls : Levels) (env : Env) → length r ≡ d → KnowAll r ls env
      → KnowAll (r ++ padded (length ps) args) (l.with_parameters means ls ps args) (walk.with_parameters means d env ps)
  knows-parameters [] args r d ls env e a = subst (λ s. KnowAll s ls env) (sym (append-nil r)) a
  knows-parameters (p ∷ ps) [] r d ls env e a =
      let rest = knows-parameters ps [] (r ++ 0 ∷ []) (suc d) (bind (means p.place) (constantly 0) ls) (with_local (means p.place) (parameter d) env)
      (let h = length-append r (0 ∷ []) in omega (arith, h, e)) (knows-one r d ls env p 0 e a) in
      subst (λ s. KnowAll s (l.with_parameters means ls (p ∷ ps) []) (walk.with_parameters means d env (p ∷ ps))) (append_assoc r (0 ∷ []) (padded (length ps) [])) rest
  knows-parameters (p ∷ ps) (x ∷ args) r d ls env e a =
      let rest = knows-parameters ps args (r ++ x ∷ []) (suc d) (bind (means p.place) (constantly x) ls) (with_local (means p.place) (parameter d) env)
      (let h = length-append r (x ∷ []) in omega (arith, h, e)) (knows-one r d ls env p x e a) in
      subst (λ s. KnowAll s (l.with_parameters means ls (p ∷ ps) (x ∷ args)) (walk.with_parameters means d env (p ∷ ps))) (append_assoc r (x ∷ []) (padded (length ps) args)) rest

  -- ---- all expressions

  -- under these levels of so many parameters, what names have and what `@` stands for is known
  abbrev pub Agree : List ℕ → ℕ → Levels → Env → ℕ → Known → Type 0
  Agree r d ls env a k = (length r ≡ d) × (KnowAll r ls env × Knows r (constantly a) k)

  pub agree-inside : (r : List ℕ) (d : ℕ) (ls : Levels) (env : Env) (a : ℕ) (k : Known) (ps : List Decl) (args : List ℕ) → Agree r d ls env a k
      → Agree (r ++ padded (length ps) args) (d + length ps) (l.with_parameters means ls ps args) (walk.with_parameters means d env ps) a k
  agree-inside r d ls env a k ps args g =
      (length-with r d (length ps) args g.0, (knows-parameters ps args r d ls env g.0 g.1.0, knows-more r (padded (length ps) args) (constantly a) k g.1.1))

  chosen : (r : List ℕ) (t : Bool) (i j : Judged) (x y : Weight) → Stands r i x → Stands r j y → Stands r (if t then i else j) (if t then x else y)
  chosen r true i j x y s t = s
  chosen r false i j x y s t = t

  stands-prefix : (r : List ℕ) (o : List ℕ) (p : Place) (j : Judged) (x : Weight) → Stands r j x → Stands r (l.prefix_level o p j) (w.prefix_weight o p x)
  stands-prefix r o p j x s =
      chosen r (is_word o (codes "UNCHANGED")) _ _ _ _ (stands-fixed r 2 (l.limited 1 p j) (w.limited 1 p (w.all_primed x)) (stands-limited r 1 p j (w.all_primed x) (stands-if r true j x s)))
      (chosen r (is_word o (codes "ENABLED")) _ _ _ _ (stands-fixed r 1 (l.limited 2 p j) (w.limited 2 p x) (stands-limited r 2 p j x s))
      (chosen r (is_word o (codes "[]") || is_word o (codes "<>")) _ _ _ _ (stands-fixed r 3 j x s) s))

  -- one definition
  knows-next : (r : List ℕ) (d : ℕ) (ls : Levels) (env : Env) (a : ℕ) (k : Known) → Agree r d ls env a k → (ps : List Decl) (t : Term) (o : Option ℕ)
      → ((args : List ℕ) → Stands (r ++ padded (length ps) args) (l.level means (l.with_parameters means ls ps args) a t) (walk.weigh means flags (d + length ps) (walk.with_parameters means d env ps) k t))
      → KnowAll r (bind o (λ args. told (l.level means (l.with_parameters means ls ps args) a t)) ls) (with_local o (definition d (length ps) (walk.weigh means flags (d + length ps) (walk.with_parameters means d env ps) k t)) env)
  knows-next r d ls env a k g ps t o s =
      let x = walk.weigh means flags (d + length ps) (walk.with_parameters means d env ps) k t in
      knows-bound r ls env o _ (definition d (length ps) x) g.1.0
      (knows-definition r d (length ps) (λ args. l.level means (l.with_parameters means ls ps args) a t) x g.0 s)

  mutual
    pub stands : (r : List ℕ) (d : ℕ) (ls : Levels) (env : Env) (a : ℕ) (k : Known) → Agree r d ls env a k → (t : Term) → Stands r (l.level means ls a t) (walk.weigh means flags d env k t)
    stands r d ls env a k g (term (name n) ts p) =
        stands-at-name r p (applied ls (means p)) (known env (means p)) (l.levels means ls a ts) (walk.weigh_each means flags d env k (flags (means p)) ts) (knows-named r ls env (means p) g.1.0) (stands-each r d ls env a k g (flags (means p)) ts)
    stands r d ls env a k g (term (call n) ts p) =
        stands-at-name r p (applied ls (means p)) (known env (means p)) (l.levels means ls a ts) (walk.weigh_each means flags d env k (flags (means p)) ts) (knows-named r ls env (means p) g.1.0) (stands-each r d ls env a k g (flags (means p)) ts)
    stands r d ls env a k g (term box none p) = stands-fixed r 2 (0, []) w.nothing (stands-nothing r)
    stands r d ls env a k g (term box (part t ts) p) =
        stands-action r p (l.level means ls a t) (l.overall (l.levels means ls a ts)) (walk.weigh means flags d env k t) (w.all_primed (w.total (walk.weigh_each means flags d env k [] ts))) (stands r d ls env a k g t)
        (stands-if r true (l.overall (l.levels means ls a ts)) (w.total (walk.weigh_each means flags d env k [] ts)) (stands-each r d ls env a k g [] ts).1)
    stands r d ls env a k g (term angle none p) = stands-fixed r 2 (0, []) w.nothing (stands-nothing r)
    stands r d ls env a k g (term angle (part t ts) p) =
        stands-action r p (l.level means ls a t) (l.overall (l.levels means ls a ts)) (walk.weigh means flags d env k t) (w.all_primed (w.total (walk.weigh_each means flags d env k [] ts))) (stands r d ls env a k g t)
        (stands-if r true (l.overall (l.levels means ls a ts)) (w.total (walk.weigh_each means flags d env k [] ts)) (stands-each r d ls env a k g [] ts).1)
    stands r d ls env a k g (term at ts p) = stands-at-name r p (constantly a) k ([], []) [] g.1.1 (refl, stands-nothing r)
    stands r d ls env a k g (term (except us) none p) = stands-nothing r
    stands r d ls env a k g (term (except us) (part t ts) p) = stands-updates r d ls env a k g (l.level means ls a t) (walk.weigh means flags d env k t) (stands r d ls env a k g t) us
    stands r d ls env a k g (term (quantifier all gs) ts p) =
        stands-beside r (l.sets means ls a gs) (l.overall (l.levels means ls a ts)) (walk.sets means flags d env k gs) (w.total (walk.weigh_each means flags d env k [] ts)) (stands-sets r d ls env a k g gs) (stands-each r d ls env a k g [] ts).1
    stands r d ls env a k g (term (choice gs) ts p) =
        stands-beside r (l.sets means ls a gs) (l.overall (l.levels means ls a ts)) (walk.sets means flags d env k gs) (w.total (walk.weigh_each means flags d env k [] ts)) (stands-sets r d ls env a k g gs) (stands-each r d ls env a k g [] ts).1
    stands r d ls env a k g (term (local ds) ts p) =
        let ms = l.with_definitions means ls a ds in
        let inner = walk.with_definitions means flags d env k ds in
        let h : Agree r d ms inner a k = (g.0, (knows-definitions r d ls env a k g ds, g.1.1)) in
        stands-beside r (0, l.bodies means ls a ds) (l.overall (l.levels means ms a ts)) (walk.bodies means flags d env k ds) (w.total (walk.weigh_each means flags d inner k [] ts)) (stands-bodies r d ls env a k g ds) (stands-each r d ms inner a k h [] ts).1
    stands r d ls env a k g (term prime ts p) =
        let j = l.overall (l.levels means ls a ts) in
        let x = w.total (walk.weigh_each means flags d env k [] ts) in
        stands-primed r p j (w.all_primed x) (stands-if r true j x (stands-each r d ls env a k g [] ts).1)
    stands r d ls env a k g (term (prefixed o) ts p) = stands-prefix r o p (l.overall (l.levels means ls a ts)) (w.total (walk.weigh_each means flags d env k [] ts)) (stands-each r d ls env a k g [] ts).1
    stands r d ls env a k g (term (infixed o) ts p) =
        let s = (stands-each r d ls env a k g [] ts).1 in
        chosen r (is_word o (codes "~>")) _ _ _ _ (stands-fixed r 3 (l.overall (l.levels means ls a ts)) (w.total (walk.weigh_each means flags d env k [] ts)) s) s
    stands r d ls env a k g (term fair ts p) = stands-fixed r 3 (l.overall (l.levels means ls a ts)) (w.total (walk.weigh_each means flags d env k [] ts)) (stands-each r d ls env a k g [] ts).1
    stands r d ls env a k g (term s ts p) = (stands-each r d ls env a k g [] ts).1

    stands-each : (r : List ℕ) (d : ℕ) (ls : Levels) (env : Env) (a : ℕ) (k : Known) → Agree r d ls env a k → (fs : List Bool) (ts : Terms) → StandEach r (l.levels means ls a ts) (walk.weigh_each means flags d env k fs ts)
    stands-each r d ls env a k g [] none = (refl, stands-nothing r)
    stands-each r d ls env a k g (f ∷ fs) none = (refl, stands-nothing r)
    stands-each r d ls env a k g [] (part t ts) =
        each-before r (l.level means ls a t) (l.levels means ls a ts) (walk.weigh means flags d env k t) (walk.weigh_each means flags d env k [] ts) (stands r d ls env a k g t) (stands-each r d ls env a k g [] ts)
    stands-each r d ls env a k g (f ∷ fs) (part t ts) =
        let j = l.level means ls a t in
        let x = walk.weigh means flags d env k t in
        each-before r j (l.levels means ls a ts) (w.primed_if f x) (walk.weigh_each means flags d env k fs ts) (stands-if r f j x (stands r d ls env a k g t)) (stands-each r d ls env a k g fs ts)

    stands-sets : (r : List ℕ) (d : ℕ) (ls : Levels) (env : Env) (a : ℕ) (k : Known) → Agree r d ls env a k → (gs : Groups) → Stands r (l.sets means ls a gs) (walk.sets means flags d env k gs)
    stands-sets r d ls env a k g end_groups = stands-nothing r
    stands-sets r d ls env a k g (free ds gs) = stands-sets r d ls env a k g gs
    stands-sets r d ls env a k g (within ds t gs) =
        stands-beside r (l.level means ls a t) (l.sets means ls a gs) (walk.weigh means flags d env k t) (walk.sets means flags d env k gs) (stands r d ls env a k g t) (stands-sets r d ls env a k g gs)

    stands-updates : (r : List ℕ) (d : ℕ) (ls : Levels) (env : Env) (a : ℕ) (k : Known) → Agree r d ls env a k → (j : Judged) (x : Weight) → Stands r j x → (us : Updates)
        → Stands r (l.updates means ls a j us) (walk.updates means flags d env k x us)
    stands-updates r d ls env a k g j x s end_updates = s
    stands-updates r d ls env a k g j x s (update ks t us) =
        let i = l.beside j (l.keys means ls a ks) in
        let y = w.join x (walk.keys means flags d env k ks) in
        let u = stands-beside r j (l.keys means ls a ks) x (walk.keys means flags d env k ks) s (stands-keys r d ls env a k g ks) in
        let h : Agree r d ls env i.0 (result_so_far d y) = (g.0, (g.1.0, knows-result r d i y g.0 u)) in
        stands-updates r d ls env a k g (l.beside i (l.level means ls i.0 t)) (w.join y (walk.weigh means flags d env (result_so_far d y) t))
        (stands-beside r i (l.level means ls i.0 t) y (walk.weigh means flags d env (result_so_far d y) t) u (stands r d ls env i.0 (result_so_far d y) h t)) us

    stands-keys : (r : List ℕ) (d : ℕ) (ls : Levels) (env : Env) (a : ℕ) (k : Known) → Agree r d ls env a k → (ks : Keys) → Stands r (l.keys means ls a ks) (walk.keys means flags d env k ks)
    stands-keys r d ls env a k g end_keys = stands-nothing r
    stands-keys r d ls env a k g (key t ks) =
        stands-beside r (l.level means ls a t) (l.keys means ls a ks) (walk.weigh means flags d env k t) (walk.keys means flags d env k ks) (stands r d ls env a k g t) (stands-keys r d ls env a k g ks)
    stands-keys r d ls env a k g (field_key h ks) = stands-keys r d ls env a k g ks

    knows-definitions : (r : List ℕ) (d : ℕ) (ls : Levels) (env : Env) (a : ℕ) (k : Known) → Agree r d ls env a k → (ds : Defs)
        → KnowAll r (l.with_definitions means ls a ds) (walk.with_definitions means flags d env k ds)
    knows-definitions r d ls env a k g end_defs = g.1.0
    knows-definitions r d ls env a k g (def n ps t p ds) =
        let n = knows-next r d ls env a k g ps t (means p)
        (λ args. stands (r ++ padded (length ps) args) (d + length ps) (l.with_parameters means ls ps args) (walk.with_parameters means d env ps) a k (agree-inside r d ls env a k ps args g) t) in
        knows-definitions r d _ _ a k (g.0, (n, g.1.1)) ds

    stands-bodies : (r : List ℕ) (d : ℕ) (ls : Levels) (env : Env) (a : ℕ) (k : Known) → Agree r d ls env a k → (ds : Defs)
        → Stands r (0, l.bodies means ls a ds) (walk.bodies means flags d env k ds)
    stands-bodies r d ls env a k g end_defs = stands-nothing r
    stands-bodies r d ls env a k g (def n ps t p ds) =
        let j = l.level means (l.with_parameters means ls ps []) a t in
        let x = walk.weigh means flags (d + length ps) (walk.with_parameters means d env ps) k t in
        let f : Applied = λ args. told (l.level means (l.with_parameters means ls ps args) a t) in
        let ms = bind (means p) f ls in
        let inner = with_local (means p) (definition d (length ps) x) env in
        let first = stands-round r d (length ps) j x g.0
        (stands (r ++ padded (length ps) []) (d + length ps) (l.with_parameters means ls ps []) (walk.with_parameters means d env ps) a k (agree-inside r d ls env a k ps [] g) t) in
        let n = knows-next r d ls env a k g ps t (means p)
        (λ args. stands (r ++ padded (length ps) args) (d + length ps) (l.with_parameters means ls ps args) (walk.with_parameters means d env ps) a k (agree-inside r d ls env a k ps args g) t) in
        stands-beside r (0, j.1) (0, l.bodies means ms a ds) (asked_round d x) (walk.bodies means flags d inner k ds) first
        (stands-bodies r d ms inner a k (g.0, (n, g.1.1)) ds)
