-- The keys of all theorems, gathered, are those of all theorems.
use Rattle.std.proofs.Common.{◌≡◌, ℕ, suc, ◌+◌, Bool, true, false, ◌||◌, if◌then◌else◌, List, [], ◌∷◌, ◌++◌, append_assoc, add_assoc, refl, sym, ap, subst, ◌∙◌, arith}
use Rattle.std.specs.Prelude.{nat_eq}
use Rattle.std.specs.List.{list_any}
use Rattle.std.proofs.Math.Bool.{or-false}
use Rattle.std.proofs.lemmas.List.{append-nil}
use Rattle.indexmap.specs.IndexSet.{insert_key}
use Rattle.plain_syntax.specs.Plain.{Unit, UnitKind as u, Module}
use Rattle.symbol_table.specs.Scoped.{Table, symbol}
use Rattle.proof_contexts.specs.Expansion.{has_number}
use Rattle.usable_facts.specs.Definitions.{Means}
use Rattle.theorem_leaves.specs.Citations.{HasKeys, unit_keys, theorems_in, units_keys, count_theorems, modules_keys}
use Rattle.theorem_leaves.specs.Keeping.{Kept, keep_unit, keep_units, keep_modules}

eq-sym : (a b : ℕ) → nat_eq a b ≡ nat_eq b a
eq-sym a b = grind arith

eq-true : (a b : ℕ) → nat_eq a b ≡ true → a ≡ b
eq-true a b h = grind arith

pub among_is : (ns : List ℕ) (k : ℕ) → list_any (nat_eq k) ns ≡ has_number ns k
among_is [] k = refl
among_is (n ∷ ns) k = (λ i. eq-sym k n i || among_is ns k i)

has-append : (xs ys : List ℕ) (k : ℕ) → has_number (xs ++ ys) k ≡ (has_number xs k || has_number ys k)
has-append [] ys k = refl
has-append (x ∷ xs) ys k = grind (arith, has-append xs ys k)

-- a key that is there already adds nothing
known-key : (ns : List ℕ) (n k : ℕ) → list_any (nat_eq n) ns ≡ true → has_number ns k ≡ (has_number ns k || (nat_eq n k || false))
known-key ns n k h = by (nat_eq n k) refl
  where
    by : (b : Bool) → nat_eq n k ≡ b → has_number ns k ≡ (has_number ns k || (b || false))
    by false e = sym (or-false (has_number ns k))
    by true e = let here : has_number ns k ≡ true = ap (has_number ns) (sym (eq-true n k e)) ∙ sym (among_is ns n) ∙ h in here ∙ sym (ap (λ b. b || true) here)

inserted : (ns : List ℕ) (n k : ℕ) → has_number (insert_key nat_eq ns n) k ≡ (has_number ns k || (nat_eq n k || false))
inserted ns n k = by (list_any (nat_eq n) ns) refl
  where
    by : (b : Bool) → list_any (nat_eq n) ns ≡ b → has_number (if b then ns else ns ++ n ∷ []) k ≡ (has_number ns k || (nat_eq n k || false))
    by true e = known-key ns n k e
    by false e = has-append ns (n ∷ []) k

has-more : (set keys : List ℕ) (n : ℕ) → HasKeys set keys → HasKeys (insert_key nat_eq set n) (keys ++ n ∷ [])
has-more set keys n h k = inserted set n k ∙ ap (λ b. b || (nat_eq n k || false)) (h k) ∙ sym (has-append keys (n ∷ []) k)

-- ---- units and modules

kept-unit : (means : Means) (x : u) (k : Kept) (keys : List ℕ) → HasKeys k.found keys
    → HasKeys (keep_unit means x k).found (keys ++ unit_keys means k.before x) × ((keep_unit means x k).before ≡ k.before + theorems_in x)
kept-unit means (u.theorem w s own) k keys h = (has-more k.found keys _ h, omega arith)
kept-unit means (u.constants ds) k keys h = (subst (HasKeys k.found) (sym (append-nil keys)) h, omega arith)
kept-unit means (u.variables ds) k keys h = (subst (HasKeys k.found) (sym (append-nil keys)) h, omega arith)
kept-unit means (u.assume w t) k keys h = (subst (HasKeys k.found) (sym (append-nil keys)) h, omega arith)
kept-unit means (u.definition ds) k keys h = (subst (HasKeys k.found) (sym (append-nil keys)) h, omega arith)

kept-units : (means : Means) (xs : List Unit) (k : Kept) (keys : List ℕ) → HasKeys k.found keys
    → HasKeys (keep_units means xs k).found (keys ++ units_keys means k.before xs) × ((keep_units means xs k).before ≡ k.before + count_theorems xs)
kept-units means [] k keys h = (subst (HasKeys k.found) (sym (append-nil keys)) h, omega arith)
kept-units means (x ∷ xs) k keys h =
    let one = kept-unit means x.kind k keys h in
    let more = kept-units means xs (keep_unit means x.kind k) (keys ++ unit_keys means k.before x.kind) one.0 in (
      subst (HasKeys (keep_units means xs (keep_unit means x.kind k)).found)
          (append_assoc keys (unit_keys means k.before x.kind) (units_keys means (keep_unit means x.kind k).before xs)
          ∙ ap (λ n. keys ++ (unit_keys means k.before x.kind ++ units_keys means n xs)) one.1) more.0,
      more.1 ∙ ap (λ n. n + count_theorems xs) one.1 ∙ add_assoc k.before (theorems_in x.kind) (count_theorems xs),
    )

kept-modules : (t : Table) (m : ℕ) (xs : List Module) (k : Kept) (keys : List ℕ) → HasKeys k.found keys
    → HasKeys (keep_modules t m xs k).found (keys ++ modules_keys t m k.before xs)
kept-modules t m [] k keys h = subst (HasKeys k.found) (sym (append-nil keys)) h
kept-modules t m (x ∷ xs) k keys h =
    let one = kept-units (symbol t m) x.units k keys h in
    let k' = keep_units (symbol t m) x.units k in
    subst (HasKeys (keep_modules t (suc m) xs k').found)
    (append_assoc keys (units_keys (symbol t m) k.before x.units) (modules_keys t (suc m) k'.before xs)
    ∙ ap (λ n. keys ++ (units_keys (symbol t m) k.before x.units ++ modules_keys t (suc m) n xs)) one.1)
    (kept-modules t (suc m) xs k' (keys ++ units_keys (symbol t m) k.before x.units) one.0)

pub all_kept : (t : Table) (ms : List Module) → HasKeys (keep_modules t 0 ms (record { found = []; before = 0 })).found (modules_keys t 0 0 ms)
all_kept t ms = kept-modules t 0 ms (record { found = []; before = 0 }) [] (λ k. refl)
