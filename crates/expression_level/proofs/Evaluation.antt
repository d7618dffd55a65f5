-- What weights come to under given levels of the parameters.
use Rattle.std.proofs.Common.{◌≡◌, ℕ, Bool, true, false, ◌||◌, ◌&&◌, nat_lt, if◌then◌else◌, List, [], ◌∷◌, ◌++◌, map, Option, Some, None, refl, sym, ap, ◌∙◌, arith}
use Rattle.tla_ast.specs.declared.place.Place.{Place}
use Rattle.expression_level.specs.declared.weight.Use.{Use}
use Rattle.expression_level.specs.Levels.{higher, raised, has_fault, fault_if}
use Rattle.expression_level.specs.Weights.{Weight, Told, merged, counted, is_over, told_by, told_from, told_under, stricter, all_uses, join, kept, fixed, with_fault, asked, capped_use, capped, raised_use, lifted, passed_limit, passed, argument, put}

-- ---- numbers and tests

pub higher-zero : (x : ℕ) → higher 0 x ≡ x
higher-zero x = grind arith

pub higher-none : (x : ℕ) → higher x 0 ≡ x
higher-none x = grind arith

pub higher-assoc : (x y z : ℕ) → higher (higher x y) z ≡ higher x (higher y z)
higher-assoc x y z = grind arith

higher-swap : (x y : ℕ) → higher x y ≡ higher y x
higher-swap x y = grind arith

higher-shuffle : (a b c d : ℕ) → higher (higher a b) (higher c d) ≡ higher (higher a c) (higher b d)
higher-shuffle a b c d =
    higher-assoc a b (higher c d)
    ∙ ap (higher a) (sym (higher-assoc b c d) ∙ ap (λ x. higher x d) (higher-swap b c) ∙ higher-assoc c b d)
    ∙ sym (higher-assoc a c (higher b d))

or-shuffle : (a b c d : Bool) → ((a || b) || (c || d)) ≡ ((a || c) || (b || d))
or-shuffle a b c d = grind arith

pub or-false : (a : Bool) → (a || false) ≡ a
or-false a = grind arith

pub or-assoc : (a b c : Bool) → ((a || b) || c) ≡ (a || (b || c))
or-assoc a b c = grind arith

raised-higher : (a b : ℕ) → raised (higher a b) ≡ higher (raised a) (raised b)
raised-higher a b = grind arith

pub merged-zero : (x : Told) → merged (0, false) x ≡ x
merged-zero x i = (higher-zero x.0 i, x.1)

pub merged-none : (x : Told) → merged x (0, false) ≡ x
merged-none x i = (higher-none x.0 i, or-false x.1 i)

pub merged-assoc : (x y z : Told) → merged (merged x y) z ≡ merged x (merged y z)
merged-assoc x y z i = (higher-assoc x.0 y.0 z.0 i, or-assoc x.1 y.1 z.1 i)

merged-shuffle : (a b c d : Told) → merged (merged a b) (merged c d) ≡ merged (merged a c) (merged b d)
merged-shuffle a b c d i = (higher-shuffle a.0 b.0 c.0 d.0 i, or-shuffle a.1 b.1 c.1 d.1 i)

-- ---- one use

abbrev count : Bool → Bool → ℕ → ℕ
count p r l = higher (if p then l else 0) (if r then raised l else 0)

count-none : (p r : Bool) → count p r 0 ≡ 0
count-none p r = grind arith

count-higher : (p r : Bool) (l m : ℕ) → count p r (higher l m) ≡ higher (count p r l) (count p r m)
count-higher true true l m = ap (higher (higher l m)) (raised-higher l m) ∙ higher-shuffle l m (raised l) (raised m)
count-higher true false l m = grind arith
count-higher false true l m = grind arith
count-higher false false l m = refl

count-both : (p r q s : Bool) (l : ℕ) → count (p || q) (r || s) l ≡ higher (count p r l) (count q s l)
count-both p r q s l = grind arith

count-passed : (p r q s : Bool) (l : ℕ) → count (p && q) ((p && s) || (r && (q || s))) l ≡ count p r (count q s l)
count-passed p r q s l = grind arith

count-raised : (p r : Bool) (l : ℕ) → count false (p || r) l ≡ raised (count p r l)
count-raised p r l = grind arith

over-none : (o : Option ℕ) → is_over o 0 ≡ false
over-none None = refl
over-none (Some k) = grind arith

over-higher : (o : Option ℕ) (l m : ℕ) → is_over o (higher l m) ≡ (is_over o l || is_over o m)
over-higher None l m = refl
over-higher (Some k) l m = grind arith

over-stricter : (a b : Option ℕ) (l : ℕ) → is_over (stricter a b) l ≡ (is_over a l || is_over b l)
over-stricter None b l = refl
over-stricter (Some k) None l = sym (or-false (nat_lt k l))
over-stricter (Some k) (Some m) l = grind arith

over-asked : (k : ℕ) (u : Use) (l : ℕ) → is_over (asked k u) l ≡ nat_lt k (counted u l)
over-asked k u l =
    over-stricter (if u.plain then Some k else None) (if u.raised && nat_lt k 2 then Some 0 else None) l
    ∙ (λ i. by-test u.plain k i || by-test (u.raised && nat_lt k 2) 0 i)
    ∙ numbers u.plain u.raised
  where
    by-test : (t : Bool) (m : ℕ) → is_over (if t then Some m else None) l ≡ (t && nat_lt m l)
    by-test true m = refl
    by-test false m = refl

    numbers : (p r : Bool) → ((p && nat_lt k l) || ((r && nat_lt k 2) && nat_lt 0 l)) ≡ nat_lt k (count p r l)
    numbers p r = grind arith

over-passed : (o : Option ℕ) (v : Use) (l : ℕ) → is_over (passed_limit o v) l ≡ is_over o (counted v l)
over-passed None v l = refl
over-passed (Some k) v l = over-asked k v l

told-none : (u : Use) → told_by u 0 ≡ (0, false)
told-none u i = (count-none u.plain u.raised i, over-none u.limit i)

told-higher : (u : Use) (l m : ℕ) → told_by u (higher l m) ≡ merged (told_by u l) (told_by u m)
told-higher u l m i = (count-higher u.plain u.raised l m i, over-higher u.limit l m i)

-- ---- lists of uses

pub from-none : (us : List Use) → told_from us [] ≡ (0, false)
from-none [] = refl
from-none (u ∷ us) = refl

pub from-zero : (u : Use) (l : ℕ) (x : Told) → l ≡ 0 → x ≡ (0, false) → merged (told_by u l) x ≡ (0, false)
from-zero u l x e f i = merged ((ap (told_by u) e ∙ told-none u) i) (f i)

from-all : (us vs : List Use) (ls : List ℕ) → told_from (all_uses us vs) ls ≡ merged (told_from us ls) (told_from vs ls)
from-all [] vs ls = sym (merged-zero (told_from vs ls))
from-all (u ∷ us) [] ls = sym (merged-none (told_from (u ∷ us) ls))
from-all (u ∷ us) (v ∷ vs) [] = refl
from-all (u ∷ us) (v ∷ vs) (l ∷ ls) =
    (λ i. merged (count-both u.plain u.raised v.plain v.raised l i, over-stricter u.limit v.limit l i) (from-all us vs ls i))
    ∙ merged-shuffle (told_by u l) (told_by v l) (told_from us ls) (told_from vs ls)

-- uses that are changed, where what they tell is changed so
from-map : (f : Use → Use) (g : Told → Told) → g (0, false) ≡ (0, false) → ((x y : Told) → g (merged x y) ≡ merged (g x) (g y)) → ((u : Use) (l : ℕ) → told_by (f u) l ≡ g (told_by u l))
    → (us : List Use) (ls : List ℕ) → told_from (map f us) ls ≡ g (told_from us ls)
from-map f g z h e [] ls = sym z
from-map f g z h e (u ∷ us) [] = sym z
from-map f g z h e (u ∷ us) (l ∷ ls) = (λ i. merged (e u l i) (from-map f g z h e us ls i)) ∙ sym (h (told_by u l) (told_from us ls))

pub from-same : (f : Use → Use) → ((u : Use) (l : ℕ) → told_by (f u) l ≡ told_by u l) → (us : List Use) (ls : List ℕ) → told_from (map f us) ls ≡ told_from us ls
from-same f = from-map f (λ x. x) refl (λ x y. refl)

pub from-unlimited : (f : Use → Use) → ((u : Use) (l : ℕ) → told_by (f u) l ≡ (counted u l, false)) → (us : List Use) (ls : List ℕ) → told_from (map f us) ls ≡ ((told_from us ls).0, false)
from-unlimited f = from-map f (λ x. (x.0, false)) refl (λ x y. refl)

from-passed : (u : Use) (us : List Use) (ls : List ℕ) → told_from (map (passed u) us) ls ≡ told_by u (told_from us ls).0
from-passed u = from-map (passed u) (λ x. told_by u x.0) (told-none u) (λ x y. told-higher u x.0 y.0)
    (λ v l i. (count-passed u.plain u.raised v.plain v.raised l i, over-passed u.limit v l i))

-- ---- weights

pub has-fault-append : (ps qs : List Place) → has_fault (ps ++ qs) ≡ (has_fault ps || has_fault qs)
has-fault-append [] qs = refl
has-fault-append (p ∷ ps) qs = refl

pub has-fault-with : (ps : List Place) (b : Bool) (p : Place) → has_fault (ps ++ fault_if b p) ≡ (has_fault ps || b)
has-fault-with ps b p = has-fault-append ps (fault_if b p) ∙ ap (λ c. has_fault ps || c) (by-test b)
  where
    by-test : (b : Bool) → has_fault (fault_if b p) ≡ b
    by-test true = refl
    by-test false = refl

-- a fault, if so
abbrev pub faulty : Bool → Told → Told
faulty b x = (x.0, x.1 || b)

pub under-join : (ls : List ℕ) (v w : Weight) → told_under ls (join v w) ≡ merged (told_under ls v) (told_under ls w)
under-join ls v w =
    (λ i. merged (higher v.least w.least, has-fault-append v.faults w.faults i) (from-all v.uses w.uses ls i))
    ∙ merged-shuffle (v.least, has_fault v.faults) (w.least, has_fault w.faults) (told_from v.uses ls) (told_from w.uses ls)

pub under-fixed : (ls : List ℕ) (l : ℕ) (w : Weight) → told_under ls (fixed l w) ≡ (l, (told_under ls w).1)
under-fixed ls l w =
    ap (merged (l, has_fault w.faults)) (from-map kept (λ x. (0, x.1)) refl (λ x y. refl) (λ u m. refl) w.uses ls)
    ∙ (λ i. (higher-none l i, (told_under ls w).1))

pub under-lifted : (ls : List ℕ) (w : Weight) → told_under ls (lifted w) ≡ (raised (told_under ls w).0, (told_under ls w).1)
under-lifted ls w =
    ap (merged (raised w.least, has_fault w.faults))
    (from-map raised_use (λ x. (raised x.0, x.1)) refl (λ x y i. (raised-higher x.0 y.0 i, x.1 || y.1)) (λ u l i. (count-raised u.plain u.raised l i, is_over u.limit l)) w.uses ls)
    ∙ (λ i. (sym (raised-higher w.least (told_from w.uses ls).0) i, (told_under ls w).1))

pub under-capped : (ls : List ℕ) (k : ℕ) (w : Weight) → faulty (nat_lt k w.least) (told_under ls (capped k w)) ≡ faulty (nat_lt k (told_under ls w).0) (told_under ls w)
under-capped ls k w =
    ap (λ x. faulty (nat_lt k w.least) (merged (w.least, has_fault w.faults) x))
    (from-map (capped_use k) (λ x. faulty (nat_lt k x.0) x) (λ i. (0, over-none (Some k) i)) (λ x y i. (higher x.0 y.0, either x.1 y.1 x.0 y.0 i))
    (λ u l i. (counted u l, (over-stricter u.limit (asked k u) l ∙ ap (λ b. is_over u.limit l || b) (over-asked k u l)) i)) w.uses ls)
    ∙ (λ i. (higher w.least (told_from w.uses ls).0, least (has_fault w.faults) (told_from w.uses ls).1 w.least (told_from w.uses ls).0 i))
  where
    either : (a b : Bool) (l m : ℕ) → ((a || b) || nat_lt k (higher l m)) ≡ ((a || nat_lt k l) || (b || nat_lt k m))
    either a b l m = grind arith

    least : (a b : Bool) (l m : ℕ) → ((a || (b || nat_lt k m)) || nat_lt k l) ≡ ((a || b) || nat_lt k (higher l m))
    least a b l m = grind arith

pub under-with : (ls : List ℕ) (b : Bool) (p : Place) (w : Weight) → told_under ls (with_fault b p w) ≡ faulty b (told_under ls w)
under-with ls b p w i = (higher w.least (told_from w.uses ls).0, (ap (λ c. c || (told_from w.uses ls).1) (has-fault-with w.faults b p) ∙ order (has_fault w.faults) b (told_from w.uses ls).1) i)
  where
    order : (a b c : Bool) → ((a || b) || c) ≡ ((a || c) || b)
    order a b c = grind arith

-- ---- arguments

pub told-put : (p : Place) (us : List Use) (ws : List Weight) (ls : List ℕ) → told_from us (map (λ w. (told_under ls w).0) ws) ≡ told_under ls (put p us ws)
told-put p [] ws ls = refl
told-put p (u ∷ us) [] ls = refl
told-put p (u ∷ us) (w ∷ ws) ls =
    (λ i. merged (told-higher u w.least (told_from w.uses ls).0 i) (told-put p us ws ls i))
    ∙ (λ i. merged (merged (counted u w.least, sym (has-fault-with [] (is_over u.limit w.least) p) i) (sym (from-passed u w.uses ls) i)) (told_under ls (put p us ws)))
    ∙ sym (under-join ls (argument p u w) (put p us ws))
