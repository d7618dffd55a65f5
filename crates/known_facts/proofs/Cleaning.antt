-- Nothing temporal comes out of a formula without suspects, however definitions are unfolded.
use Rattle.std.proofs.Common.{◌≡◌, ℕ, suc, ◌-◌, Bool, true, false, ◌||◌, cond, nat_lt, nat_eq, if◌then◌else◌, List, [], ◌∷◌, ◌++◌, map, refl, sym, ap, subst, ◌∙◌}
use Rattle.std.specs.Prelude.{Some, None}
use Rattle.std.specs.List.{list_any}
use Rattle.core_expr.specs.declared.head.Sym.{Sym}
use Rattle.core_expr.specs.declared.row.Row.{Row}
use Rattle.core_expr.specs.declared.row.RowKind.{RowKind}
use Rattle.core_expr.specs.declared.row.RowKind.TheVariants as kind
use Rattle.core_expr.specs.Tree.{Tree, Parts, size}
use Rattle.core_expr.specs.Tree.Tree.{bound, app, node, bind}
use Rattle.core_expr.specs.Tree.Parts.{end, part}
use Rattle.core_expr.specs.Flat.{row, rows_at, all_rows}
use Rattle.core_expr.specs.Heads.{table_numbers}
use Rattle.core_expr.specs.Put.{shift, shifts, argument, put, puts, apply_body, sub, subs}
use Rattle.core_expr.specs.Rename.{named}
use Rattle.core_expr.specs.Terms.{same_sym}
use Rattle.core_expr.specs.Equal.{sym-same, nat-refl}
use Rattle.obligation.specs.declared.obligation.Definition.{Definition}
use Rattle.obligation.specs.Unfolding.{put_in, unfolded}
use Rattle.proof_contexts.specs.Expansion.{has_number, chosen, full}
use Rattle.proof_contexts.specs.Contexts.{unfolded_by}
use Rattle.proof_contexts.specs.Leaves.{is_mark, has_mark, have_mark, any_mark, is_temporal}
use Rattle.known_facts.specs.Clean.{is_suspect, has_suspect, with_suspect, suspects, is_temporal_one}

-- ---- tests of nodes on the tree

module _ (p : RowKind → Bool) where
  abbrev mutual
    some : Tree → Bool
    some (bound i) = p kind.Bound
    some (app f ps) = some_part ps || p (kind.Symbol f)
    some (node h ns ps) = some_part ps || p (kind.Plain h)
    some (bind b ps e) = some_part ps || (some e || p (kind.Binding b))

    some_part : Parts → Bool
    some_part end = false
    some_part (part e ps) = some e || some_part ps

  abbrev test : Row → Bool
  test r = p r.kind

  or-false : (b : Bool) → (b || false) ≡ b
  or-false true = refl
  or-false false = refl

  or-assoc : (a b c : Bool) → ((a || b) || c) ≡ (a || (b || c))
  or-assoc true b c = refl
  or-assoc false b c = refl

  any-append : (xs ys : List Row) → list_any test (xs ++ ys) ≡ (list_any test xs || list_any test ys)
  any-append [] ys = refl
  any-append (x ∷ xs) ys = ap (λ b. test x || b) (any-append xs ys) ∙ sym (or-assoc (test x) (list_any test xs) (list_any test ys))

  mutual
    any-rows : (d : ℕ) (t : Tree) → list_any test (rows_at d t) ≡ some t
    any-rows d (bound i) = or-false (p kind.Bound)
    any-rows d (app f ps) = any-append (all_rows d ps) (row (kind.Symbol f) [] (size ps) d ∷ []) ∙ (λ i. any-parts d ps i || or-false (p (kind.Symbol f)) i)
    any-rows d (node h ns ps) =
        any-append (all_rows d ps) (row (kind.Plain h) (table_numbers h ns (size ps)) (size ps) d ∷ []) ∙ (λ i. any-parts d ps i || or-false (p (kind.Plain h)) i)
    any-rows d (bind b ps e) =
        any-append (all_rows d ps) (rows_at (suc d) e ++ row (kind.Binding b) [] (suc (size ps)) d ∷ [])
        ∙ (λ i. any-parts d ps i || (any-append (rows_at (suc d) e) (row (kind.Binding b) [] (suc (size ps)) d ∷ []) ∙ (λ j. any-rows (suc d) e j || or-false (p (kind.Binding b)) j)) i)

    any-parts : (d : ℕ) (ps : Parts) → list_any test (all_rows d ps) ≡ some_part ps
    any-parts d end = refl
    any-parts d (part e ps) = any-append (rows_at d e) (all_rows d ps) ∙ (λ i. any-rows d e i || any-parts d ps i)

-- ---- the mark

or-swap : (a b : Bool) → (a || b) ≡ (b || a)
or-swap true true = refl
or-swap true false = refl
or-swap false true = refl
or-swap false false = refl

or-none : (b : Bool) → (b || false) ≡ b
or-none true = refl
or-none false = refl

mutual
  marked : (t : Tree) → some (is_suspect []) t ≡ has_mark t
  marked (bound i) = refl
  marked (app f ps) = or-none (some_part (is_suspect []) ps) ∙ marked-parts ps
  marked (node h ns ps) = or-swap (some_part (is_suspect []) ps) (is_mark h) ∙ ap (λ b. is_mark h || b) (marked-parts ps)
  marked (bind b ps e) = λ i. marked-parts ps i || (or-none (some (is_suspect []) e) ∙ marked e) i

  marked-parts : (ps : Parts) → some_part (is_suspect []) ps ≡ have_mark ps
  marked-parts end = refl
  marked-parts (part e ps) = λ i. marked e i || marked-parts ps i

pub mark_is : (t : Tree) → has_suspect [] t ≡ has_mark t
mark_is t = any-rows (is_suspect []) 0 t ∙ marked t

-- ---- clean formulas

abbrev mutual
  Clean : List ℕ → Tree → Type 0
  Clean ns (bound i) = Unit {0}
  Clean ns (app f ps) = (has_number ns f.number ≡ false) × CleanParts ns ps
  Clean ns (node h ms ps) = (is_mark h ≡ false) × CleanParts ns ps
  Clean ns (bind b ps e) = CleanParts ns ps × Clean ns e

  CleanParts : List ℕ → Parts → Type 0
  CleanParts ns end = Unit {0}
  CleanParts ns (part e ps) = Clean ns e × CleanParts ns ps

neither : (a b : Bool) → (a || b) ≡ false → (a ≡ false) × (b ≡ false)
neither true b h = cc
neither false b h = (refl, h)

mutual
  from-none : (ns : List ℕ) (t : Tree) → some (is_suspect ns) t ≡ false → Clean ns t
  from-none ns (bound i) h = tt
  from-none ns (app f ps) h = let r = neither (some_part (is_suspect ns) ps) (has_number ns f.number) h in (r.1, parts-from-none ns ps r.0)
  from-none ns (node m ms ps) h = let r = neither (some_part (is_suspect ns) ps) (is_mark m) h in (r.1, parts-from-none ns ps r.0)
  from-none ns (bind b ps e) h =
      let r = neither (some_part (is_suspect ns) ps) (some (is_suspect ns) e || false) h in
      (parts-from-none ns ps r.0, from-none ns e (sym (or-none (some (is_suspect ns) e)) ∙ r.1))

  parts-from-none : (ns : List ℕ) (ps : Parts) → some_part (is_suspect ns) ps ≡ false → CleanParts ns ps
  parts-from-none ns end h = tt
  parts-from-none ns (part e ps) h = let r = neither (some (is_suspect ns) e) (some_part (is_suspect ns) ps) h in (from-none ns e r.0, parts-from-none ns ps r.1)

clean-from : (ns : List ℕ) (t : Tree) → has_suspect ns t ≡ false → Clean ns t
clean-from ns t h = from-none ns t (sym (any-rows (is_suspect ns) 0 t) ∙ h)

mutual
  unmarked : (ns : List ℕ) (t : Tree) → Clean ns t → has_mark t ≡ false
  unmarked ns (bound i) h = refl
  unmarked ns (app f ps) h = parts-unmarked ns ps h.1
  unmarked ns (node m ms ps) h = (λ i. h.0 i || parts-unmarked ns ps h.1 i)
  unmarked ns (bind b ps e) h = (λ i. parts-unmarked ns ps h.0 i || unmarked ns e h.1 i)

  parts-unmarked : (ns : List ℕ) (ps : Parts) → CleanParts ns ps → have_mark ps ≡ false
  parts-unmarked ns end h = refl
  parts-unmarked ns (part e ps) h = (λ i. unmarked ns e h.0 i || parts-unmarked ns ps h.1 i)

-- ---- putting in

module _ (ns : List ℕ) where
  mutual
    clean-shift : (c k : ℕ) (t : Tree) → Clean ns t → Clean ns (shift c k t)
    clean-shift c k (bound i) h = tt
    clean-shift c k (app f ps) h = (h.0, clean-shifts c k ps h.1)
    clean-shift c k (node m ms ps) h = (h.0, clean-shifts c k ps h.1)
    clean-shift c k (bind b ps e) h = (clean-shifts c k ps h.0, clean-shift (suc c) k e h.1)

    clean-shifts : (c k : ℕ) (ps : Parts) → CleanParts ns ps → CleanParts ns (shifts c k ps)
    clean-shifts c k end h = tt
    clean-shifts c k (part e ps) h = (clean-shift c k e h.0, clean-shifts c k ps h.1)

  clean-cond : (b : Bool) (t u : Tree) → Clean ns t → Clean ns u → Clean ns (cond b t u)
  clean-cond true t u h g = h
  clean-cond false t u h g = g

  clean-argument : (ts : Parts) (j : ℕ) → CleanParts ns ts → Clean ns (argument ts j)
  clean-argument end j h = (refl, tt)
  clean-argument (part e ts) j h = go (nat_eq j (size ts)) (clean-argument ts j h.1)
    where
      go : (b : Bool) → Clean ns (argument ts j) → Clean ns (cond b e (argument ts j))
      go true r = h.0
      go false r = r

  mutual
    clean-put : (d : ℕ) (ts : Parts) (t : Tree) → CleanParts ns ts → Clean ns t → Clean ns (put d ts t)
    clean-put d ts (bound i) g h = clean-cond (nat_lt i d) (bound i) (shift 0 d (argument ts (i - d))) tt (clean-shift 0 d (argument ts (i - d)) (clean-argument ts (i - d) g))
    clean-put d ts (app f ps) g h = (h.0, clean-puts d ts ps g h.1)
    clean-put d ts (node m ms ps) g h = (h.0, clean-puts d ts ps g h.1)
    clean-put d ts (bind b ps e) g h = (clean-puts d ts ps g h.0, clean-put (suc d) ts e g h.1)

    clean-puts : (d : ℕ) (ts ps : Parts) → CleanParts ns ts → CleanParts ns ps → CleanParts ns (puts d ts ps)
    clean-puts d ts end g h = tt
    clean-puts d ts (part e ps) g h = (clean-put d ts e g h.0, clean-puts d ts ps g h.1)

  -- a clean body in a clean formula
  module _ (f : Sym) (t : Tree) (body : Clean ns t) where
    clean-applied : (b : Bool) (g : Sym) (ps : Parts) → has_number ns g.number ≡ false → CleanParts ns ps → Clean ns (apply_body (elim b [ true ↦ Some t | false ↦ None ]) g ps)
    clean-applied true g ps n h = clean-put 0 ps t h body
    clean-applied false g ps n h = (n, h)

    mutual
      clean-sub : (e : Tree) → Clean ns e → Clean ns (sub (named ((f, t) ∷ [])) e)
      clean-sub (bound i) h = tt
      clean-sub (app g ps) h = clean-applied (same_sym f g) g (subs (named ((f, t) ∷ [])) ps) h.0 (clean-subs ps h.1)
      clean-sub (node m ms ps) h = (h.0, clean-subs ps h.1)
      clean-sub (bind b ps e) h = (clean-subs ps h.0, clean-sub e h.1)

      clean-subs : (ps : Parts) → CleanParts ns ps → CleanParts ns (subs (named ((f, t) ∷ [])) ps)
      clean-subs end h = tt
      clean-subs (part e ps) h = (clean-sub e h.0, clean-subs ps h.1)

  -- a symbol that no clean formula has
  module _ (f : Sym) (t : Tree) (absent : has_number ns f.number ≡ true) where
    same-applied : (b : Bool) (g : Sym) (ps qs : Parts) → same_sym f g ≡ b → has_number ns g.number ≡ false → qs ≡ ps → apply_body (elim b [ true ↦ Some t | false ↦ None ]) g qs ≡ app g ps
    same-applied true g ps qs q n e = let m : true ≡ false = sym absent ∙ ap (λ (s : Sym). has_number ns s.number) (sym-same f g q) ∙ n in cc
    same-applied false g ps qs q n e = ap (app g) e

    mutual
      same-sub : (e : Tree) → Clean ns e → sub (named ((f, t) ∷ [])) e ≡ e
      same-sub (bound i) h = refl
      same-sub (app g ps) h = same-applied (same_sym f g) g ps (subs (named ((f, t) ∷ [])) ps) refl h.0 (same-subs ps h.1)
      same-sub (node m ms ps) h = ap (node m ms) (same-subs ps h.1)
      same-sub (bind b ps e) h = λ i. bind b (same-subs ps h.0 i) (same-sub e h.1 i)

      same-subs : (ps : Parts) → CleanParts ns ps → subs (named ((f, t) ∷ [])) ps ≡ ps
      same-subs end h = refl
      same-subs (part e ps) h = λ i. part (same-sub e h.0 i) (same-subs ps h.1 i)

-- ---- fewer suspects

fewer : (ns : List ℕ) (n k : ℕ) → has_number (ns ++ n ∷ []) k ≡ false → has_number ns k ≡ false
fewer [] n k h = refl
fewer (m ∷ ns) n k h = let r = neither (nat_eq m k) (has_number (ns ++ n ∷ []) k) h in (λ i. r.0 i || fewer ns n k r.1 i)

mutual
  clean-fewer : (ns : List ℕ) (n : ℕ) (t : Tree) → Clean (ns ++ n ∷ []) t → Clean ns t
  clean-fewer ns n (bound i) h = tt
  clean-fewer ns n (app f ps) h = (fewer ns n f.number h.0, parts-fewer ns n ps h.1)
  clean-fewer ns n (node m ms ps) h = (h.0, parts-fewer ns n ps h.1)
  clean-fewer ns n (bind b ps e) h = (parts-fewer ns n ps h.0, clean-fewer ns n e h.1)

  parts-fewer : (ns : List ℕ) (n : ℕ) (ps : Parts) → CleanParts (ns ++ n ∷ []) ps → CleanParts ns ps
  parts-fewer ns n end h = tt
  parts-fewer ns n (part e ps) h = (clean-fewer ns n e h.0, parts-fewer ns n ps h.1)

has-last : (ns : List ℕ) (n : ℕ) → has_number (ns ++ n ∷ []) n ≡ true
has-last [] n = ap (λ b. b || false) (nat-refl n)
has-last (m ∷ ns) n = ap (λ b. nat_eq m n || b) (has-last ns n) ∙ or-swap (nat_eq m n) true

-- one definition: left alone, or unfolded
step-skips : (ns : List ℕ) (d : Definition) (e : Tree) → Clean (with_suspect ns d) e → Clean ns e
step-skips ns d e h = go (has_suspect ns d.body) h
  where
    go : (b : Bool) → Clean (if b then ns ++ d.symbol.number ∷ [] else ns) e → Clean ns e
    go true h = clean-fewer ns d.symbol.number e h
    go false h = h

step-unfolds : (ns : List ℕ) (d : Definition) (e : Tree) → Clean (with_suspect ns d) e → Clean ns (put_in d e)
step-unfolds ns d e h = go (has_suspect ns d.body) refl h
  where
    go : (b : Bool) → has_suspect ns d.body ≡ b → Clean (if b then ns ++ d.symbol.number ∷ [] else ns) e → Clean ns (put_in d e)
    go true q h =
        subst (Clean ns) (sym (same-sub (ns ++ d.symbol.number ∷ []) d.symbol d.body (has-last ns d.symbol.number) e h)) (clean-fewer ns d.symbol.number e h)
    go false q h = clean-sub ns d.symbol d.body (clean-from ns d.body q) e h

clean-full : (ns : List ℕ) (ds : List Definition) (e : Tree) → Clean (suspects ns ds) e → Clean ns (unfolded ds e)
clean-full ns [] e h = h
clean-full ns (d ∷ ds) e h = step-unfolds ns d (unfolded ds e) (clean-full (with_suspect ns d) ds e h)

clean-chosen : (u ns : List ℕ) (ds : List Definition) (e : Tree) → Clean (suspects ns ds) e → Clean ns (unfolded (chosen u ds) e)
clean-chosen u ns [] e h = h
clean-chosen u ns (d ∷ ds) e h = go (has_number u d.symbol.number) (clean-chosen u (with_suspect ns d) ds e h)
  where
    go : (b : Bool) → Clean (with_suspect ns d) (unfolded (chosen u ds) e) → Clean ns (unfolded (cond b (d ∷ chosen u ds) (chosen u ds)) e)
    go true rest = step-unfolds ns d (unfolded (chosen u ds) e) rest
    go false rest = step-skips ns d (unfolded (chosen u ds) e) rest

-- without a suspect there is nothing temporal
pub clean_stays : (table : List Definition) (u ns : List ℕ) (e : Tree) → ns ≡ suspects [] table → has_suspect ns e ≡ false → false ≡ is_temporal_one table u e
clean_stays table u ns e q h =
    let c : Clean (suspects [] table) e = subst (λ ns. Clean ns e) q (clean-from ns e h) in
    λ i. sym (unmarked [] (full table e) (clean-full [] table e c)) i || sym (unmarked [] (unfolded_by table u e) (clean-chosen u [] table e c)) i

-- ---- several formulas

shuffle : (a b c d : Bool) → ((a || b) || (c || d)) ≡ ((a || c) || (b || d))
shuffle true b c d = refl
shuffle false true true d = refl
shuffle false true false d = refl
shuffle false false true d = refl
shuffle false false false d = refl

pub any_is : (table : List Definition) (u : List ℕ) (es : List Tree) → list_any (is_temporal_one table u) es ≡ is_temporal table u es
any_is table u [] = refl
any_is table u (e ∷ es) =
    ap (λ b. is_temporal_one table u e || b) (any_is table u es)
    ∙ shuffle (has_mark (full table e)) (has_mark (unfolded_by table u e)) (any_mark (map (full table) es)) (any_mark (map (unfolded_by table u) es))

pub goal_temporal : (table : List Definition) (u : List ℕ) (e : Tree) (es : List Tree) → true ≡ is_temporal_one table u e → true ≡ is_temporal table u (e ∷ es)
goal_temporal table u e es h = ap (λ b. b || list_any (is_temporal_one table u) es) h ∙ any_is table u (e ∷ es)

pub facts_temporal : (table : List Definition) (u : List ℕ) (e : Tree) (es : List Tree) (b : Bool) → false ≡ is_temporal_one table u e → b ≡ list_any (is_temporal_one table u) es → b ≡ is_temporal table u (e ∷ es)
facts_temporal table u e es b h g = g ∙ ap (λ c. c || list_any (is_temporal_one table u) es) h ∙ any_is table u (e ∷ es)
