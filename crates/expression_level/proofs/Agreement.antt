-- The linear form of levels is the levels: under any levels of the parameters, a weight has the level of its expression, and a fault
-- where there is one.
use Rattle.std.proofs.Common.{◌≡◌, ℕ, zero, suc, ◌≤◌, Bool, true, false, ◌||◌, nat_lt, List, [], ◌∷◌, ◌++◌, map, take, drop, length, refl, sym, ap, ◌∙◌, arith, append-nil}
use Rattle.tla_ast.specs.declared.place.Place.{Place}
use Rattle.expression_level.specs.declared.weight.Use.{Use}
use Rattle.expression_level.specs.Levels.{Judged, Several, Applied, higher, raised, has_fault, fault_if, told, before, beside, overall, at_name, limited, primed_level, action_level}
use Rattle.expression_level.specs.Weights as w
use Rattle.expression_level.specs.Weights.{Weight, Known, merged, told_by, told_from, told_under, nothing, join, total, fixed, with_fault, capped, lifted, depth_of, function_of, primed_use, primed_if, named}
use Rattle.expression_level.specs.Weights.Known.{arguments, defined}
use Rattle.expression_level.proofs.Evaluation.{higher-none, or-false, merged-zero, merged-assoc, from-zero, from-same, has-fault-append, has-fault-with, faulty, under-join, under-fixed, under-lifted, under-capped, under-with, told-put}

-- ---- all levels 0

abbrev pub Zeros : List ℕ → Type 0
Zeros [] = Unit {0}
Zeros (l ∷ ls) = (l ≡ 0) × Zeros ls

told-at-zeros : (us : List Use) (ls : List ℕ) → Zeros ls → told_from us ls ≡ (0, false)
told-at-zeros [] ls z = refl
told-at-zeros (u ∷ us) [] z = refl
told-at-zeros (u ∷ us) (l ∷ ls) z = from-zero u l (told_from us ls) z.0 (told-at-zeros us ls z.1)

least-at-zeros : (ls : List ℕ) (x : Weight) → Zeros ls → (told_under ls x).0 ≡ x.least
least-at-zeros ls x z = ap (λ y. higher x.least y.0) (told-at-zeros x.uses ls z) ∙ higher-none x.least

-- ---- one expression

-- under these levels of the parameters a weight says what was judged: the level, whether there is a fault, and where all have level
-- 0 the places of the faults
abbrev pub Stands : List ℕ → Judged → Weight → Type 0
Stands r j x = (told j ≡ told_under r x) × (Zeros r → j.1 ≡ x.faults)

pub stands-nothing : (r : List ℕ) → Stands r (0, []) nothing
stands-nothing r = (refl, λ z. refl)

pub stands-beside : (r : List ℕ) (i j : Judged) (x y : Weight) → Stands r i x → Stands r j y → Stands r (beside i j) (join x y)
stands-beside r i j x y s t = (
  (λ k. (higher i.0 j.0, has-fault-append i.1 j.1 k)) ∙ (λ k. merged (s.0 k) (t.0 k)) ∙ sym (under-join r x y),
  λ z k. s.1 z k ++ t.1 z k,
)

pub stands-fixed : (r : List ℕ) (l : ℕ) (j : Judged) (x : Weight) → Stands r j x → Stands r (l, j.1) (fixed l x)
stands-fixed r l j x s = (ap (λ y. (l, y.1)) s.0 ∙ sym (under-fixed r l x), s.1)

pub stands-limited : (r : List ℕ) (k : ℕ) (p : Place) (j : Judged) (x : Weight) → Stands r j x → Stands r (limited k p j) (w.limited k p x)
stands-limited r k p j x s = (
  (λ i. (j.0, has-fault-with j.1 (nat_lt k j.0) p i)) ∙ ap (λ y. faulty (nat_lt k y.0) y) s.0 ∙ sym (under-capped r k x) ∙ sym (under-with r (nat_lt k x.least) p (capped k x)),
  λ z i. s.1 z i ++ fault_if (nat_lt k ((ap (λ y. y.0) s.0 ∙ least-at-zeros r x z) i)) p,
)

pub stands-primed : (r : List ℕ) (p : Place) (j : Judged) (x : Weight) → Stands r j x → Stands r (primed_level p j) (lifted (w.limited 1 p x))
stands-primed r p j x s =
    let t = stands-limited r 1 p j x s in (ap (λ y. (raised y.0, y.1)) t.0 ∙ sym (under-lifted r (w.limited 1 p x)), t.1)

pub stands-action : (r : List ℕ) (p : Place) (a v : Judged) (x y : Weight) → Stands r a x → Stands r v y → Stands r (action_level p a v) (w.action_weight p x y)
stands-action r p a v x y s t =
    let b = nat_lt 2 x.least || nat_lt 1 y.least in
    let all = join (capped 2 x) (capped 1 y) in (
      (λ i. (2, (has-fault-with (a.1 ++ v.1) (nat_lt 2 a.0 || nat_lt 1 v.0) p ∙ ap (λ c. c || (nat_lt 2 a.0 || nat_lt 1 v.0)) (has-fault-append a.1 v.1)) i))
          ∙ (λ i. (2, ((s.0 i).1 || (t.0 i).1) || (nat_lt 2 (s.0 i).0 || nat_lt 1 (t.0 i).0)))
          ∙ (λ i. (2, order (told_under r x).1 (told_under r y).1 (nat_lt 2 (told_under r x).0) (nat_lt 1 (told_under r y).0) i))
          ∙ sym (λ i. (2, (under-capped r 2 x i).1 || (under-capped r 1 y i).1))
          ∙ (λ i. (2, order (told_under r (capped 2 x)).1 (nat_lt 2 x.least) (told_under r (capped 1 y)).1 (nat_lt 1 y.least) i))
          ∙ sym (under-fixed r 2 (with_fault b p all) ∙ (λ i. (2, ((under-with r b p all ∙ ap (faulty b) (under-join r (capped 2 x) (capped 1 y))) i).1))),
      λ z i. (s.1 z i ++ t.1 z i) ++ fault_if (nat_lt 2 ((ap (λ q. q.0) s.0 ∙ least-at-zeros r x z) i) || nat_lt 1 ((ap (λ q. q.0) t.0 ∙ least-at-zeros r y z) i)) p,
    )
  where
    order : (a b c d : Bool) → ((a || b) || (c || d)) ≡ ((a || c) || (b || d))
    order a b c d = grind arith

pub stands-if : (r : List ℕ) (b : Bool) (j : Judged) (x : Weight) → Stands r j x → Stands r j (primed_if b x)
stands-if r true j x s = (s.0 ∙ ap (merged (x.least, has_fault x.faults)) (sym (from-same primed_use (λ u l. refl) x.uses r)), s.1)
stands-if r false j x s = s

-- ---- several expressions

abbrev pub StandEach : List ℕ → Several → List Weight → Type 0
StandEach r js xs = (js.0 ≡ map (λ x. (told_under r x).0) xs) × Stands r (overall js) (total xs)

pub each-before : (r : List ℕ) (j : Judged) (js : Several) (x : Weight) (xs : List Weight) → Stands r j x → StandEach r js xs → StandEach r (before j js) (x ∷ xs)
each-before r j js x xs s t = (λ k. (s.0 k).0 ∷ t.0 k, stands-beside r j (overall js) x (total xs) s t.1)

-- ---- names

-- under these levels of the parameters a known name has this function
abbrev pub Knows : List ℕ → Applied → Known → Type 0
Knows r f k = (depth_of k ≤ length r) × ((args : List ℕ) → f args ≡ function_of r k args)

split : (d : ℕ) (us : List Use) (r args : List ℕ) → d ≤ length r → told_from us (take d r ++ args) ≡ merged (told_from (take d us) r) (told_from (drop d us) args)
split zero us r args h = sym (merged-zero (told_from us args))
split (suc d) [] r args h = refl
split (suc d) (u ∷ us) [] args h = absurd (grind arith)
split (suc d) (u ∷ us) (l ∷ r) args h =
    ap (merged (told_by u l)) (split d us r args (omega (arith, h))) ∙ sym (merged-assoc (told_by u l) (told_from (take d us) r) (told_from (drop d us) args))

pub stands-at-name : (r : List ℕ) (p : Place) (f : Applied) (k : Known) (js : Several) (xs : List Weight) → Knows r f k → StandEach r js xs
    → Stands r (at_name p f js) (w.at_name p k xs)
stands-at-name r p f arguments js xs n t =
    let e = n.1 js.0 in
    let c = (λ i. js.1 ++ fault_if (e i).1 p) ∙ append-nil js.1 in ((λ i. ((e i).0, has_fault (c i))) ∙ t.1.0, λ z. c ∙ t.1.1 z)
stands-at-name r p f (defined d l us b) js xs n t =
    let own : Weight = record { least = l; uses = map named (take d us); faults = [] } in
    let put = w.put p (drop d us) xs in
    let given : Weight = record { least = put.least; uses = put.uses; faults = [] } in
    let q = has_fault put.faults in
    let outer = told_from (take d us) r in
    let x = told_from put.uses r in
    let all = join (fixed 0 (total xs)) (join own given) in
    let found = n.1 js.0 ∙ ap (function_of r (defined d l us b)) t.0
    ∙ ap (merged (l, b)) (split d us r (map (λ x. (told_under r x).0) xs) n.0 ∙ ap (merged outer) (told-put p (drop d us) xs r)) in
    let under = under-with r (b || q) p all
    ∙ ap (faulty (b || q)) (
    under-join r (fixed 0 (total xs)) (join own given)
    ∙ (λ i. merged (under-fixed r 0 (total xs) i) ((under-join r own given ∙ ap (λ y. merged (merged (l, false) y) (told_under r given)) (from-same named (λ u m. refl) (take d us) r)) i))
    ) in (
      (λ i. ((f js.0).0, has-fault-with js.1 (f js.0).1 p i))
          ∙ (λ i. ((found i).0, (t.1.0 i).1 || (found i).1))
          ∙ (λ i. (levels outer.0 (higher put.least x.0) i, faults (told_under r (total xs)).1 outer.1 q x.1 i))
          ∙ sym under,
      λ z.
          let none = ap (λ y. y.1) found ∙ (λ i. b || ((told-at-zeros (take d us) r z i).1 || (q || (told-at-zeros put.uses r z i).1))) ∙ ap (λ y. b || y) (or-false q) in
          λ i. (t.1.1 z ∙ sym (append-nil (total xs).faults)) i ++ fault_if (none i) p,
    )
  where
    levels : (c m : ℕ) → higher l (higher c m) ≡ higher 0 (higher (higher l c) m)
    levels c m = grind arith

    faults : (t a q c : Bool) → (t || (b || (a || (q || c)))) ≡ ((t || ((false || a) || c)) || (b || q))
    faults t a q c = grind arith
