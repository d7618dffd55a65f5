-- Live universals by age and by count, and the instances of places.
use Rattle.std.proofs.Common.{◌≡◌, ℕ, zero, suc, ◌+◌, ◌<◌, ◌≤◌, Bool, true, false, nat_le, nat_eq, Option, Some, None, Result as Res, Ok, Err, List, [], ◌∷◌, length, get_or, drop, refl, ap, sym, ◌∙◌, subst, arith, add-one}
use Rattle.std.specs.Prelude.{OnOk}
use Rattle.std.specs.List.{insert as inserted}
use Rattle.std.proofs.lemmas.List.{drop_more}
use Rattle.core_expr.specs.Tree.{Tree}
use Rattle.core_expr.specs.Put.{IsScoped}
use Rattle.seq_calculus.specs.Calculus.{IsClosed}
use Rattle.term_bank.specs.Banks.{Extends, HasTree, tree_at}
use Rattle.term_bank.proofs.InstLaws.{Extends-trans}
use Rattle.search_definition.specs.declared.rule.Rule.{Rule}
use Rattle.search_definition.specs.declared.rule.Rule.TheVariants as rules
use Rattle.search_definition.specs.Terms.{if_so, or_else, after, first_some}
use Rattle.search_definition.specs.Rules.{Result}
use Rattle.search_definition.specs.Instances.{Fresh, Universal, universal, instance, spare_term, is_new, new_term, found_term, mapped, Place, place_before, places, insert, by_count, instance_step, spare_at}
use Rattle.search_definition.proofs.Standing.{Holds}
use Rattle.search_definition.proofs.Telling.{if-fine}
use Rattle.branch_state.specs.Shown.{Placed, placed_at, no_place}
use Rattle.tableau_search.specs.Entries.{AreKnown, branch_of}
use Rattle.tableau_search.proofs.LiftLaws.{tree_kept, branch_kept, known_at}
use Rattle.formula_rules.specs.Answers.{HasTerm, universal_of}
use Rattle.instance_ranks.specs.declared.live.LiveUniversal.{LiveUniversal}
use Rattle.instance_ranks.specs.declared.ranks.Instance.{Instance}
use Rattle.instance_ranks.specs.Lives.{place_of, places_of, IsLive, AreLive, place_with, entry_place, HasPlace, live_at, put_in, with_place, HasInstance}
use Rattle.instance_ranks.proofs.KeepLaws.{below_kept, body_kept, universal_kept, term_none}

-- the place, if there is one, before the others
abbrev before : Option Place → List Place → List Place
before None ps = ps
before (Some p) ps = p ∷ ps

places_next : (ts : List Tree) (es : List Placed) (i : ℕ) → i < length es → places i (branch_of ts (drop i es)) ≡ before (entry_place ts es i) (places (i + 1) (branch_of ts (drop (i + 1) es)))
places_next ts es i l =
    ap (λ xs. places i (branch_of ts xs)) (drop_more es i no_place l)
    ∙ go e.live (universal t)
    ∙ ap (λ n. before (entry_place ts es i) (places n (branch_of ts (drop (i + 1) es)))) (sym (add-one i))
  where
    e : Placed
    e = placed_at es i

    t : Tree
    t = tree_at ts e.formula

    rest : List Place
    rest = places (suc i) (branch_of ts (drop (i + 1) es))

    go : (b : Bool) (o : Option Universal) → if_so b (place_before i e.count t o rest) rest ≡ before (if_so b (place_with i e.count t o) None) rest
    go true None = refl
    go true (Some u) = refl
    go false o = refl

-- by count

put_place : (ts : List Tree) (x : LiveUniversal) (xs : List LiveUniversal) → places_of ts (put_in x xs) ≡ insert (place_of ts x) (places_of ts xs)
put_place ts x [] = refl
put_place ts x (y ∷ ys) = go (nat_le x.count y.count) (put_place ts x ys)
  where
    go : (b : Bool) → places_of ts (put_in x ys) ≡ insert (place_of ts x) (places_of ts ys)
        → places_of ts (if_so b (x ∷ y ∷ ys) (y ∷ put_in x ys)) ≡ if_so b (place_of ts x ∷ place_of ts y ∷ places_of ts ys) (place_of ts y ∷ insert (place_of ts x) (places_of ts ys))
    go true h = refl
    go false h = ap (λ ps. place_of ts y ∷ ps) h

pub put_at : (x : LiveUniversal) (xs : List LiveUniversal) (i : ℕ) → i ≤ length xs → ((k : ℕ) → k < i → nat_le x.count (live_at xs k).count ≡ false) → (i < length xs → nat_le x.count (live_at xs i).count ≡ true) → inserted xs i x ≡ put_in x xs
put_at x [] zero l h g = refl
put_at x [] (suc i) l h g = absurd (omega (arith, l))
put_at x (y ∷ ys) zero l h g = ap (λ b. if_so b (x ∷ y ∷ ys) (y ∷ put_in x ys)) (sym (g (omega arith)))
put_at x (y ∷ ys) (suc i) l h g =
    ap (λ zs. y ∷ zs) (put_at x ys i (omega (arith, l)) (λ k m. h (suc k) (omega (arith, m))) (λ m. g (omega (arith, m))))
    ∙ ap (λ b. if_so b (x ∷ y ∷ ys) (y ∷ put_in x ys)) (sym (h 0 (omega arith)))

live_put : (ts : List Tree) (es : List Placed) (x : LiveUniversal) (xs : List LiveUniversal) → IsLive ts es x → AreLive ts es xs → AreLive ts es (put_in x xs)
live_put ts es x [] h a = (h, tt)
live_put ts es x (y ∷ ys) h a = go (nat_le x.count y.count) (live_put ts es x ys h a.1)
  where
    go : (b : Bool) → AreLive ts es (put_in x ys) → AreLive ts es (if_so b (x ∷ y ∷ ys) (y ∷ put_in x ys))
    go true r = (h, a)
    go false r = (a.0, r)

-- an entry that is put in
pub entry_put : {E : Type 0} (r : Res (Unit {0}) E) (ts : List Tree) (es : List Placed) (x : LiveUniversal) (o : Option LiveUniversal) (p : Option Place) (old new : List LiveUniversal) → o ≡ Some x → HasPlace ts o p → OnOk r (new ≡ put_in x old) → OnOk r (places_of ts new ≡ with_place p (places_of ts old))
entry_put (Ok v) ts es x o p old new e h q =
    let g : p ≡ Some (place_of ts x) = subst (λ o. HasPlace ts o p) e h in
    ap (places_of ts) q ∙ put_place ts x old ∙ ap (λ v. with_place v (places_of ts old)) (sym g)
entry_put (Err v) ts es x o p old new e h q = tt

pub entry_live : {E : Type 0} (r : Res (Unit {0}) E) (ts : List Tree) (es : List Placed) (x : LiveUniversal) (old new : List LiveUniversal) → IsLive ts es x → AreLive ts es old → OnOk r (new ≡ put_in x old) → OnOk r (AreLive ts es new)
entry_live (Ok v) ts es x old new h a q = subst (AreLive ts es) (sym q) (live_put ts es x old h a)
entry_live (Err v) ts es x old new h a q = tt

-- the next older entry
pub count_next : (ts : List Tree) (es : List Placed) (i j : ℕ) (old new : List LiveUniversal) → j ≡ i + 1 → i < length es → places_of ts new ≡ with_place (entry_place ts es i) (places_of ts old)
    → places_of ts old ≡ by_count (places j (branch_of ts (drop j es))) → places_of ts new ≡ by_count (places i (branch_of ts (drop i es)))
count_next ts es i j old new q l n h =
    n ∙ ap (with_place (entry_place ts es i)) (h ∙ ap (λ k. by_count (places k (branch_of ts (drop k es)))) q) ∙ go (entry_place ts es i) ∙ sym (ap by_count (places_next ts es i l))
  where
    go : (o : Option Place) → with_place o (by_count (places (i + 1) (branch_of ts (drop (i + 1) es)))) ≡ by_count (before o (places (i + 1) (branch_of ts (drop (i + 1) es))))
    go None = refl
    go (Some p) = refl

-- what stays when the bank grows

pub live_kept : (ts us : List Tree) (es : List Placed) (x : LiveUniversal) → Extends ts us → IsLive ts es x → IsLive us es x
live_kept ts us es x g h = record { within = h.within; lives = h.lives; formula = below_kept ts us x.formula g h.formula; body = body_kept ts us x.universal g h.body }

pub place_kept : (ts us : List Tree) (es : List Placed) (x : LiveUniversal) → Extends ts us → IsLive ts es x → place_of us x ≡ place_of ts x
place_kept ts us es x g h = λ i. record { entry = x.entry; count = x.count; formula = tree_kept ts us x.formula g h.formula i; universal = universal_kept ts us x.universal g h.body i }

-- instances of places

pub instance_none : (ts : List Tree) (es : List Placed) (rule : Rule) (o : Option Result) (k : Option Instance) → HasInstance ts es rule o k → k ≡ None → o ≡ None
instance_none ts es rule o k h e = subst (HasInstance ts es rule o) e h

-- a term that is found makes an instance
module _ (ts mid : List Tree) (es : List Placed) (rule : Rule) (x : LiveUniversal) where
  pub made : (t : ℕ) (k : Option ℕ) (o : Option Tree) → Extends ts mid → IsLive ts es x → k ≡ Some t → HasTerm mid k o → Holds IsClosed o
      → HasInstance mid es rule (mapped (instance_step rule (place_of ts x)) o) (Some (record { place = x; term = t }))
  made t k o g h e a c = go o (subst (λ k. HasTerm mid k o) e a) c
    where
      go : (o : Option Tree) → HasTerm mid (Some t) o → Holds IsClosed o → HasInstance mid es rule (mapped (instance_step rule (place_of ts x)) o) (Some (record { place = x; term = t }))
      go None a c = absurd a
      go (Some v) a c = ((λ i. Some (instance_step rule (sym (place_kept ts mid es x g h) i) (sym a.tree i))), record { place = live_kept ts mid es x g h; term = a.within; closed = subst (IsScoped 0) (sym a.tree) c })

  pub unmade : (k : Option ℕ) (o : Option Tree) → k ≡ None → HasTerm mid k o → mapped (instance_step rule (place_of ts x)) o ≡ None
  unmade k o e a = ap (mapped (instance_step rule (place_of ts x))) (term_none mid k o e a)

-- walks along places

pub has_or : (mid : List Tree) (es : List Placed) (rule : Rule) (now o rest whole : Option Result) (k : Option Instance) → now ≡ or_else o rest → now ≡ whole → HasInstance mid es rule o k → (x : Instance) → k ≡ Some x → HasInstance mid es rule whole (Some x)
has_or mid es rule now o rest whole k e h a x q =
    let b = subst (HasInstance mid es rule o) q a in
    (sym h ∙ e ∙ ap (λ v. or_else v rest) b.0, b.1)

pub none_or : (now o rest whole : Option Result) → now ≡ or_else o rest → now ≡ whole → o ≡ None → rest ≡ whole
none_or now o rest whole e h n = ap (λ v. or_else v rest) (sym n) ∙ sym e ∙ h

pub places_of_next : {B : Type 0} (g : Place → Option B) (ts : List Tree) (xs : List LiveUniversal) (i : ℕ) (d : LiveUniversal) → i < length xs → first_some g (places_of ts (drop i xs)) ≡ or_else (g (place_of ts (get_or xs i d))) (first_some g (places_of ts (drop (i + 1) xs)))
places_of_next g ts xs i d l = ap (λ ys. first_some g (places_of ts ys)) (drop_more xs i d l)

pub places_some : {B : Type 0} (g : Place → Option B) (ts : List Tree) (es : List Placed) (i : ℕ) → i < length es
    → first_some g (places i (branch_of ts (drop i es))) ≡ or_else (after g (entry_place ts es i)) (first_some g (places (i + 1) (branch_of ts (drop (i + 1) es))))
places_some g ts es i l = ap (first_some g) (places_next ts es i l) ∙ go (entry_place ts es i)
  where
    go : (o : Option Place) → first_some g (before o (places (i + 1) (branch_of ts (drop (i + 1) es)))) ≡ or_else (after g o) (first_some g (places (i + 1) (branch_of ts (drop (i + 1) es))))
    go None = refl
    go (Some p) = refl

pub live_among : (ts : List Tree) (es : List Placed) (xs : List LiveUniversal) (i : ℕ) (d : LiveUniversal) → AreLive ts es xs → i < length xs → IsLive ts es (get_or xs i d)
live_among ts es [] i d a l = absurd (omega (arith, l))
live_among ts es (x ∷ xs) zero d a l = a.0
live_among ts es (x ∷ xs) (suc i) d a l = live_among ts es xs i d a.1 (omega (arith, l))

-- what stays of a place's answer when the bank grows

pub found_stays : (ts us : List Tree) (es : List Placed) (w : Fresh) (x : LiveUniversal) → Extends ts us → AreKnown (length ts) es → IsLive ts es x → found_term (branch_of us es) w (universal_of us x.universal) ≡ found_term (branch_of ts es) w (universal_of ts x.universal)
found_stays ts us es w x g a h = λ i. found_term (branch_kept ts us es g a i) w (universal_kept ts us x.universal g h.body i)

entry_place_kept : (ts us : List Tree) (es : List Placed) (i : ℕ) → Extends ts us → AreKnown (length ts) es → i < length es → entry_place us es i ≡ entry_place ts es i
entry_place_kept ts us es i g a l =
    let e = placed_at es i in
    ap (λ t. if_so e.live (place_with i e.count t (universal t)) None) (tree_kept ts us e.formula g (known_at (length ts) es i a l))

pub spare_stays : (ts us : List Tree) (es : List Placed) (w : Fresh) (i : ℕ) → Extends ts us → AreKnown (length ts) es → i < length es → after (spare_at (branch_of us es) w) (entry_place us es i) ≡ after (spare_at (branch_of ts es) w) (entry_place ts es i)
spare_stays ts us es w i g a l = λ j. after (spare_at (branch_kept ts us es g a j) w) (entry_place_kept ts us es i g a l j)

-- the instance by the spare term
spare_same : (ts mid : List Tree) (es : List Placed) (w : Fresh) (x : LiveUniversal) (s : ℕ) → Extends ts mid → AreKnown (length ts) es → IsLive ts es x → HasTree mid s (spare_term w)
    → new_term (branch_of mid es) (universal_of mid x.universal) (tree_at mid s) ≡ new_term (branch_of ts es) (universal_of ts x.universal) (spare_term w)
spare_same ts mid es w x s g a l q = λ i. new_term (branch_kept ts mid es g a i) (universal_kept ts mid x.universal g l.body i) (q.tree i)

pub spare_made : (ts mid now : List Tree) (es : List Placed) (w : Fresh) (x : LiveUniversal) (s t : ℕ) (k : Option ℕ) → Extends ts mid → Extends mid now → AreKnown (length ts) es → IsLive ts es x → HasTree mid s (spare_term w) → x.count ≡ 0 → k ≡ Some t
    → HasTerm now k (new_term (branch_of mid es) (universal_of mid x.universal) (tree_at mid s)) → HasInstance now es rules.Spare (spare_at (branch_of ts es) w (place_of ts x)) (Some (record { place = x; term = t }))
spare_made ts mid now es w x s t k g h a l q z e n =
    let b = branch_of ts es in
    let u = universal_of ts x.universal in
    subst (λ c. HasInstance now es rules.Spare (if_so (nat_eq c 0) (mapped (instance_step rules.Spare (place_of ts x)) (new_term b u (spare_term w))) None) (Some (record { place = x; term = t }))) (sym z)
    (made ts now es rules.Spare x t k (new_term b u (spare_term w)) (Extends-trans ts mid now g h) l e (subst (HasTerm now k) (spare_same ts mid es w x s g a l q) n) (if-fine IsClosed (is_new b (instance u (spare_term w))) (spare_term w) tt))

pub spare_unmade : (ts mid now : List Tree) (es : List Placed) (w : Fresh) (x : LiveUniversal) (s : ℕ) (k : Option ℕ) → Extends ts mid → AreKnown (length ts) es → IsLive ts es x → HasTree mid s (spare_term w) → k ≡ None
    → HasTerm now k (new_term (branch_of mid es) (universal_of mid x.universal) (tree_at mid s)) → spare_at (branch_of ts es) w (place_of ts x) ≡ None
spare_unmade ts mid now es w x s k g a l q e n =
    let o = new_term (branch_of ts es) (universal_of ts x.universal) (spare_term w) in
    ap (λ o. if_so (nat_eq x.count 0) o None) (unmade ts now es rules.Spare x k o e (subst (HasTerm now k) (spare_same ts mid es w x s g a l q) n)) ∙ go (nat_eq x.count 0)
  where
    go : (b : Bool) → if_so {A = Option Result} b None None ≡ None
    go true = refl
    go false = refl
