-- What weights say of how a parameter stands in an expression is so by the text.
use Rattle.std.proofs.Common.{◌≡◌, ◌≢◌, ℕ, zero, suc, ◌+◌, ◌≤◌, ◌<◌, Bool, true, false, nat_eq, if◌then◌else◌, codes, List, [], ◌∷◌, ◌++◌, map, take, drop, length, get_or, Option, Some, None, refl, sym, ap, subst, ◌∙◌, arith, append_assoc, append-nil}
use Rattle.std.proofs.lemmas.List.{get_or-take}
use Rattle.tla_ast.specs.declared.place.Place.{Place}
use Rattle.tla_ast.specs.declared.tree.Decl.{Decl}
use Rattle.plain_syntax.specs.Plain.{Term, Terms, Updates, Keys, Groups, Defs}
use Rattle.plain_syntax.specs.Plain.Term.{term}
use Rattle.plain_syntax.specs.Plain.Terms.{none, part}
use Rattle.plain_syntax.specs.Plain.Shape.{name, call, prefixed, infixed, prime, except, box, angle, quantifier, choice, local, at, fair}
use Rattle.plain_syntax.specs.Plain.Updates.{end_updates, update}
use Rattle.plain_syntax.specs.Plain.Keys.{end_keys, key, field_key}
use Rattle.plain_syntax.specs.Plain.Groups.{end_groups, free, within}
use Rattle.plain_syntax.specs.Plain.Defs.{end_defs, def}
use Rattle.expression_level.specs.declared.weight.Use.{Use}
use Rattle.expression_level.specs.Levels.{bind, is_word}
use Rattle.expression_level.specs.Primed as said
use Rattle.expression_level.specs.Primed.{Occurrence, Holders, nowhere, here, beside, primed_if, is_holder, others, occurs, primed_parameters}
use Rattle.expression_level.specs.Weights as w
use Rattle.expression_level.specs.Scope as walk
use Rattle.expression_level.specs.Scope.{Env, at_number, known, with_local, with_parameters, weigh}
use Rattle.expression_level.proofs.Locals.{at-bound}
use Rattle.expression_level.specs.Weights.{Weight, Known, all_uses, join, total, kept, fixed, capped_use, raised_use, limited, primed_use, all_primed, named, passed, put, unlimited, unused, parameter, depth_of, at_name, result_so_far, asked_round, primed_first}
use Rattle.expression_level.specs.Weights.Known.{arguments, defined}
use Rattle.expression_level.proofs.Evaluation.{or-false}

-- ---- the use at a position

abbrev stands : Use → Occurrence
stands u = record { held = u.held; primed = u.primed }

abbrev pub seen : ℕ → List Use → Occurrence
seen i us = stands (get_or us i unused)

beside-nowhere : (x : Occurrence) → beside x nowhere ≡ x
beside-nowhere x i = record { held = or-false x.held i; primed = or-false x.primed i }

seen-all : (i : ℕ) (us vs : List Use) → seen i (all_uses us vs) ≡ beside (seen i us) (seen i vs)
seen-all i [] vs = refl
seen-all i (u ∷ us) [] = sym (beside-nowhere (seen i (u ∷ us)))
seen-all zero (u ∷ us) (v ∷ vs) = refl
seen-all (suc i) (u ∷ us) (v ∷ vs) = seen-all i us vs

seen-map : (f : Use → Use) (g : Occurrence → Occurrence) → nowhere ≡ g nowhere → ((u : Use) → stands (f u) ≡ g (stands u)) → (i : ℕ) (us : List Use) → seen i (map f us) ≡ g (seen i us)
seen-map f g e h i [] = e
seen-map f g e h zero (u ∷ us) = h u
seen-map f g e h (suc i) (u ∷ us) = seen-map f g e h i us

seen-same : (f : Use → Use) → ((u : Use) → stands (f u) ≡ stands u) → (i : ℕ) (us : List Use) → seen i (map f us) ≡ seen i us
seen-same f h = seen-map f (λ x. x) refl h

seen-take : (i d : ℕ) (us : List Use) → i < d → seen i (take d us) ≡ seen i us
seen-take i d us h = ap stands (get_or-take d us i unused h)

seen-put : (i : ℕ) (p : Place) (us : List Use) (ws : List Weight) → seen i (put p us ws).uses ≡ nowhere
seen-put i p [] ws = refl
seen-put i p (u ∷ us) [] = refl
seen-put i p (u ∷ us) (x ∷ ws) =
    seen-all i (map (passed u) x.uses) (put p us ws).uses ∙ (λ j. beside (seen-map (passed u) (λ y. nowhere) refl (λ v. refl) i x.uses j) (seen-put i p us ws j))

-- what stands round a known name
abbrev round : Known → List Use
round arguments = []
round (defined d l us b) = take d us

seen-own : (d : ℕ) → seen d (round (parameter d)) ≡ here true
seen-own zero = refl
seen-own (suc d) = seen-own d

seen-other : (d i : ℕ) → d ≢ i → seen i (round (parameter d)) ≡ nowhere
seen-other zero zero h = absurd (h refl)
seen-other zero (suc i) h = refl
seen-other (suc d) zero h = refl
seen-other (suc d) (suc i) h = seen-other d i (λ e. h (ap suc e))

module _ (i : ℕ) where
  -- a weight says how the parameter stands in an expression
  abbrev Sees : Weight → Occurrence → Type 0
  Sees x o = seen i x.uses ≡ o

  -- what a known name holds
  abbrev Holds : Known → Bool → Type 0
  Holds k b = (seen i (round k)).held ≡ b

  sees-join : (x y : Weight) (o q : Occurrence) → Sees x o → Sees y q → Sees (join x y) (beside o q)
  sees-join x y o q s t = seen-all i x.uses y.uses ∙ (λ j. beside (s j) (t j))

  sees-fixed : (l : ℕ) (x : Weight) (o : Occurrence) → Sees x o → Sees (fixed l x) o
  sees-fixed l x o s = seen-same kept (λ u. refl) i x.uses ∙ s

  sees-limited : (k : ℕ) (p : Place) (x : Weight) (o : Occurrence) → Sees x o → Sees (limited k p x) o
  sees-limited k p x o s = seen-same (capped_use k) (λ u. refl) i x.uses ∙ s

  sees-primed : (b : Bool) (x : Weight) (o : Occurrence) → Sees x o → Sees (if b then all_primed x else x) (primed_if b o)
  sees-primed true x o s = seen-map primed_use (primed_if true) refl (λ u. refl) i x.uses ∙ ap (primed_if true) s
  sees-primed false x o s = s

  sees-action : (p : Place) (x y : Weight) (o q : Occurrence) → Sees x o → Sees y q → Sees (w.action_weight p x (all_primed y)) (beside o (primed_if true q))
  sees-action p x y o q s t =
      sees-fixed 2 (join (w.capped 2 x) (w.capped 1 (all_primed y))) (beside o (primed_if true q))
      (sees-join (w.capped 2 x) (w.capped 1 (all_primed y)) o (primed_if true q) (sees-limited 2 p x o s) (sees-limited 1 p (all_primed y) (primed_if true q) (sees-primed true y q t)))

  sees-prefix : (p : Place) (x : Weight) (o : Occurrence) (a b c : Bool) → Sees x o
      → Sees (if a then fixed 2 (limited 1 p (all_primed x)) else (if b then fixed 1 (limited 2 p x) else (if c then fixed 3 x else x))) (primed_if a o)
  sees-prefix p x o true b c s = sees-fixed 2 (limited 1 p (all_primed x)) (primed_if true o) (sees-limited 1 p (all_primed x) (primed_if true o) (sees-primed true x o s))
  sees-prefix p x o false true c s = sees-fixed 1 (limited 2 p x) o (sees-limited 2 p x o s)
  sees-prefix p x o false false true s = sees-fixed 3 x o s
  sees-prefix p x o false false false s = s

  sees-name : (p : Place) (k : Known) (b : Bool) (xs : List Weight) (o : Occurrence) → Holds k b → Sees (total xs) o → Sees (at_name p k xs) (beside o (here b))
  sees-name p arguments b xs o h s = s ∙ sym (beside-nowhere o) ∙ ap (λ c. beside o (here c)) h
  sees-name p (defined d l us f) b xs o h s =
      let name = seen-map named (λ (x : Occurrence). here x.held) refl (λ u. refl) i (take d us) ∙ ap here h in
      seen-all i (map kept (total xs).uses) (all_uses (map named (take d us)) (put p (drop d us) xs).uses)
      ∙ (λ j. beside (sees-fixed 0 (total xs) o s j) ((seen-all i (map named (take d us)) (put p (drop d us) xs).uses ∙ (λ m. beside (name m) (seen-put i p (drop d us) xs m)) ∙ beside-nowhere (here b)) j))

  -- ---- what all numbers hold

  abbrev HoldAll : Holders → Env → Type 0
  HoldAll hs env = (n : ℕ) → Holds (at_number env n) (hs n)

  hold-bound : (hs : Holders) (env : Env) (o : Option ℕ) (b : Bool) (k : Known) → HoldAll hs env → Holds k b → HoldAll (bind o b hs) (with_local o k env)
  hold-bound hs env None b k a h = a
  hold-bound hs env (Some m) b k a h = λ q. subst (λ j. Holds j (bind (Some m) b hs q)) (sym (at-bound env m k q)) (by-test q (nat_eq m q))
    where
      by-test : (q : ℕ) (t : Bool) → Holds (if t then k else at_number env q) (if t then b else hs q)
      by-test q true = h
      by-test q false = a q

  holds-named : (hs : Holders) (env : Env) (o : Option ℕ) → HoldAll hs env → Holds (known env o) (is_holder hs o)
  holds-named hs env None a = refl
  holds-named hs env (Some n) a = a n

  hold-next : (d : ℕ) (hs : Holders) (env : Env) (o : Option ℕ) (n : ℕ) (x : Weight) (q : Occurrence) → i < d → HoldAll hs env → Sees x q → HoldAll (bind o q.held hs) (with_local o (w.definition d n x) env)
  hold-next d hs env o n x q h a s =
      hold-bound hs env o q.held (w.definition d n x) a (ap (λ z. z.held) (seen-take i d (take (d + n) x.uses) h ∙ seen-take i (d + n) x.uses (omega (arith, h)) ∙ s))

  module _ (means : Place → Option ℕ) where
    hold-others : (ps : List Decl) (d : ℕ) (hs : Holders) (env : Env) → i < d → HoldAll hs env → HoldAll (others means ps hs) (with_parameters means d env ps)
    hold-others [] d hs env h a = a
    hold-others (q ∷ ps) d hs env h a =
        hold-others ps (suc d) (bind (means q.place) false hs) (with_local (means q.place) (parameter d) env) (omega (arith, h))
        (hold-bound hs env (means q.place) false (parameter d) a (ap (λ x. x.held) (seen-other d i (λ e. omega (arith, h, e)))))

  module _ (means : Place → Option ℕ) (flags : Option ℕ → List Bool) where
    mutual
      pub sees : (d : ℕ) (hs : Holders) (env : Env) (b : Bool) (k : Known) → i < d → HoldAll hs env → Holds k b → (t : Term) → Sees (weigh means flags d env k t) (occurs means flags hs b t)
      sees d hs env b k h a g (term (name n) ts p) =
          sees-name p (known env (means p)) (is_holder hs (means p)) (walk.weigh_each means flags d env k (flags (means p)) ts) _ (holds-named hs env (means p) a) (sees-each d hs env b k h a g (flags (means p)) ts)
      sees d hs env b k h a g (term (call n) ts p) =
          sees-name p (known env (means p)) (is_holder hs (means p)) (walk.weigh_each means flags d env k (flags (means p)) ts) _ (holds-named hs env (means p) a) (sees-each d hs env b k h a g (flags (means p)) ts)
      sees d hs env b k h a g (term prime ts p) =
          let x = total (walk.weigh_each means flags d env k [] ts) in
          seen-same raised_use (λ u. refl) i (limited 1 p (all_primed x)).uses ∙ sees-limited 1 p (all_primed x) _ (sees-primed true x _ (sees-each d hs env b k h a g [] ts))
      sees d hs env b k h a g (term (prefixed o) ts p) = sees-prefix p (total (walk.weigh_each means flags d env k [] ts)) _ (is_word o (codes "UNCHANGED")) _ _ (sees-each d hs env b k h a g [] ts)
      sees d hs env b k h a g (term (infixed o) ts p) = sees-prefix p (total (walk.weigh_each means flags d env k [] ts)) _ false false (is_word o (codes "~>")) (sees-each d hs env b k h a g [] ts)
      sees d hs env b k h a g (term fair ts p) = sees-fixed 3 (total (walk.weigh_each means flags d env k [] ts)) _ (sees-each d hs env b k h a g [] ts)
      sees d hs env b k h a g (term box none p) = refl
      sees d hs env b k h a g (term box (part t ts) p) = sees-action p (weigh means flags d env k t) (total (walk.weigh_each means flags d env k [] ts)) _ _ (sees d hs env b k h a g t) (sees-each d hs env b k h a g [] ts)
      sees d hs env b k h a g (term angle none p) = refl
      sees d hs env b k h a g (term angle (part t ts) p) = sees-action p (weigh means flags d env k t) (total (walk.weigh_each means flags d env k [] ts)) _ _ (sees d hs env b k h a g t) (sees-each d hs env b k h a g [] ts)
      sees d hs env b k h a g (term at ts p) = sees-name p k b [] nowhere g refl
      sees d hs env b k h a g (term (except us) none p) = refl
      sees d hs env b k h a g (term (except us) (part t ts) p) = sees-updates d hs env b k h a g (weigh means flags d env k t) _ (sees d hs env b k h a g t) us
      sees d hs env b k h a g (term (quantifier all gs) ts p) = sees-join (walk.sets means flags d env k gs) (total (walk.weigh_each means flags d env k [] ts)) _ _ (sees-sets d hs env b k h a g gs) (sees-each d hs env b k h a g [] ts)
      sees d hs env b k h a g (term (choice gs) ts p) = sees-join (walk.sets means flags d env k gs) (total (walk.weigh_each means flags d env k [] ts)) _ _ (sees-sets d hs env b k h a g gs) (sees-each d hs env b k h a g [] ts)
      sees d hs env b k h a g (term (local ds) ts p) =
          sees-join (walk.bodies means flags d env k ds) (total (walk.weigh_each means flags d (walk.with_definitions means flags d env k ds) k [] ts)) _ _ (sees-bodies d hs env b k h a g ds)
          (sees-each d (said.with_definitions means flags hs b ds) (walk.with_definitions means flags d env k ds) b k h (hold-definitions d hs env b k h a g ds) g [] ts)
      sees d hs env b k h a g (term s ts p) = sees-each d hs env b k h a g [] ts

      sees-each : (d : ℕ) (hs : Holders) (env : Env) (b : Bool) (k : Known) → i < d → HoldAll hs env → Holds k b → (fs : List Bool) (ts : Terms)
          → Sees (total (walk.weigh_each means flags d env k fs ts)) (said.in_each means flags hs b fs ts)
      sees-each d hs env b k h a g [] none = refl
      sees-each d hs env b k h a g (f ∷ fs) none = refl
      sees-each d hs env b k h a g [] (part t ts) =
          sees-join (weigh means flags d env k t) (total (walk.weigh_each means flags d env k [] ts)) _ _ (sees d hs env b k h a g t) (sees-each d hs env b k h a g [] ts)
      sees-each d hs env b k h a g (f ∷ fs) (part t ts) =
          let x = weigh means flags d env k t in
          sees-join (if f then all_primed x else x) (total (walk.weigh_each means flags d env k fs ts)) _ _ (sees-primed f x _ (sees d hs env b k h a g t)) (sees-each d hs env b k h a g fs ts)

      sees-sets : (d : ℕ) (hs : Holders) (env : Env) (b : Bool) (k : Known) → i < d → HoldAll hs env → Holds k b → (gs : Groups) → Sees (walk.sets means flags d env k gs) (said.in_sets means flags hs b gs)
      sees-sets d hs env b k h a g end_groups = refl
      sees-sets d hs env b k h a g (free ds gs) = sees-sets d hs env b k h a g gs
      sees-sets d hs env b k h a g (within ds t gs) = sees-join (weigh means flags d env k t) (walk.sets means flags d env k gs) _ _ (sees d hs env b k h a g t) (sees-sets d hs env b k h a g gs)

      sees-updates : (d : ℕ) (hs : Holders) (env : Env) (b : Bool) (k : Known) → i < d → HoldAll hs env → Holds k b → (x : Weight) (o : Occurrence) → Sees x o → (us : Updates)
          → Sees (walk.updates means flags d env k x us) (said.in_updates means flags hs b o us)
      sees-updates d hs env b k h a g x o s end_updates = s
      sees-updates d hs env b k h a g x o s (update ks t us) =
          let y = join x (walk.keys means flags d env k ks) in
          let q = beside o (said.in_keys means flags hs b ks) in
          let u : Sees y q = sees-join x (walk.keys means flags d env k ks) o (said.in_keys means flags hs b ks) s (sees-keys d hs env b k h a g ks) in
          let at : Holds (result_so_far d y) q.held =
          ap (λ z. z.held) (seen-take i d (map unlimited (take d y.uses)) h ∙ seen-same unlimited (λ v. refl) i (take d y.uses) ∙ seen-take i d y.uses h ∙ u) in
          let v = weigh means flags d env (result_so_far d y) t in
          sees-updates d hs env b k h a g (join y v) (beside q (occurs means flags hs q.held t)) (sees-join y v q _ u (sees d hs env q.held (result_so_far d y) h a at t)) us

      sees-keys : (d : ℕ) (hs : Holders) (env : Env) (b : Bool) (k : Known) → i < d → HoldAll hs env → Holds k b → (ks : Keys) → Sees (walk.keys means flags d env k ks) (said.in_keys means flags hs b ks)
      sees-keys d hs env b k h a g end_keys = refl
      sees-keys d hs env b k h a g (key t ks) = sees-join (weigh means flags d env k t) (walk.keys means flags d env k ks) _ _ (sees d hs env b k h a g t) (sees-keys d hs env b k h a g ks)
      sees-keys d hs env b k h a g (field_key x ks) = sees-keys d hs env b k h a g ks

      hold-definitions : (d : ℕ) (hs : Holders) (env : Env) (b : Bool) (k : Known) → i < d → HoldAll hs env → Holds k b → (ds : Defs)
          → HoldAll (said.with_definitions means flags hs b ds) (walk.with_definitions means flags d env k ds)
      hold-definitions d hs env b k h a g end_defs = a
      hold-definitions d hs env b k h a g (def n ps t p ds) =
          let x = weigh means flags (d + length ps) (with_parameters means d env ps) k t in
          let s = sees (d + length ps) (others means ps hs) (with_parameters means d env ps) b k (omega (arith, h)) (hold-others means ps d hs env h a) g t in
          hold-definitions d _ _ b k h (hold-next d hs env (means p) (length ps) x _ h a s) g ds

      sees-bodies : (d : ℕ) (hs : Holders) (env : Env) (b : Bool) (k : Known) → i < d → HoldAll hs env → Holds k b → (ds : Defs) → Sees (walk.bodies means flags d env k ds) (said.in_bodies means flags hs b ds)
      sees-bodies d hs env b k h a g end_defs = refl
      sees-bodies d hs env b k h a g (def n ps t p ds) =
          let x = weigh means flags (d + length ps) (with_parameters means d env ps) k t in
          let s = sees (d + length ps) (others means ps hs) (with_parameters means d env ps) b k (omega (arith, h)) (hold-others means ps d hs env h a) g t in
          let inner = with_local (means p) (w.definition d (length ps) x) env in
          sees-join (asked_round d x) (walk.bodies means flags d inner k ds) _ _ (seen-same kept (λ u. refl) i (take d x.uses) ∙ seen-take i d x.uses h ∙ s)
          (sees-bodies d _ _ b k h (hold-next d hs env (means p) (length ps) x _ h a s) g ds)

-- ---- one parameter after another

-- nothing holds a parameter at this position or behind it
abbrev pub Blank : ℕ → Env → Type 0
Blank i env = (j n : ℕ) → i ≤ j → (seen j (round (at_number env n))).held ≡ false

pub blank-closed : (k : Known) (j : ℕ) → depth_of k ≡ 0 → (seen j (round k)).held ≡ false
blank-closed arguments j e = refl
blank-closed (defined d l us b) j e = ap (λ m. (seen j (take m us)).held) e

module _ (means : Place → Option ℕ) (flags : Option ℕ → List Bool) (k : Known) (t : Term) where
  pub primed-next : (us : List Use) (i : ℕ) (ps : List Decl) (env : Env) → depth_of k ≡ 0 → Blank i env → us ≡ (weigh means flags (i + length ps) (with_parameters means i env ps) k t).uses
      → primed_first us (i + length ps) ≡ primed_first us i ++ primed_parameters means flags ps t
  primed-next us i [] env c a e = ap (primed_first us) (plus i) ∙ sym (append-nil (primed_first us i))
    where
      plus : (i : ℕ) → i + 0 ≡ i
      plus i = omega arith
  primed-next us i (q ∷ ps) env c a e =
      let next = with_local (means q.place) (parameter i) env in
      let f = e ∙ ap (λ m. (weigh means flags m (with_parameters means (suc i) next ps) k t).uses) (plus i (length ps)) in
      let one = hold-bound i (λ n. false) env (means q.place) true (parameter i) (λ n. a i n (omega arith)) (ap (λ x. x.held) (seen-own i)) in
      let head = ap (seen i) f ∙ sees i means flags (suc i + length ps) _ _ false k (omega arith) (hold-others i means ps (suc i) (bind (means q.place) true (λ n. false)) next (omega arith) one) (blank-closed k i c) t in
      ap (primed_first us) (plus i (length ps))
      ∙ primed-next us (suc i) ps next c (blank i env (means q.place) a) f
      ∙ append_assoc (primed_first us i) ((get_or us i unused).primed ∷ []) (primed_parameters means flags ps t)
      ∙ ap (λ x. primed_first us i ++ x.primed ∷ primed_parameters means flags ps t) head
    where
      plus : (i n : ℕ) → i + suc n ≡ suc i + n
      plus i n = omega arith

      never : (o : Option ℕ) (n : ℕ) → bind o false (λ m. false) n ≡ false
      never None n = refl
      never (Some m) n = grind arith

      blank : (i : ℕ) (env : Env) (o : Option ℕ) → Blank i env → Blank (suc i) (with_local o (parameter i) env)
      blank i env o a j n h =
          hold-bound j (λ m. false) env o false (parameter i) (λ m. a j m (omega (arith, h))) (ap (λ x. x.held) (seen-other i j (λ e. omega (arith, h, e)))) n ∙ never o n
