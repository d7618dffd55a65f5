-- A pass over a module, and over all of them.
use Rattle.std.proofs.Common.{◌≡◌, ℕ, suc, ◌+◌, Bool, List, [], ◌∷◌, ◌++◌, map, length, length-append, refl, sym, ap, subst, ◌∙◌}
use Rattle.std.proofs.lemmas.List.{append-nil}
use Rattle.obligation.specs.declared.obligation.Definition.{Definition}
use Rattle.symbol_table.specs.declared.entry.Entry.{Entry}
use Rattle.symbol_table.specs.Scoped.{Table, symbol}
use Rattle.tla_ast.specs.declared.place.Place.{Place}
use Rattle.plain_syntax.specs.Plain.{Text, Unit, UnitKind as u, Module}
use Rattle.proof_contexts.specs.Expansion.{has_number}
use Rattle.proof_contexts.specs.Theorems.{Known, Theorem}
use Rattle.known_facts.specs.Shown.{context_of}
use Rattle.usable_facts.specs.Definitions.{Means, definitions_of}
use Rattle.usable_facts.specs.Theorems as usable
use Rattle.usable_facts.specs.Theorems.{unit_theorem, units_theorems, unit_adds, units_adds, reaches, brought, modules_theorems, joined, is_theorem_of, keys_of}
use Rattle.theorem_leaves.specs.Additions.{known_of}
use Rattle.theorem_leaves.specs.declared.chapter.Chapter.{Chapter}
use Rattle.theorem_leaves.specs.declared.units.Reading.{Reading}
use Rattle.theorem_leaves.specs.declared.modules.Done.{Done}
use Rattle.theorem_leaves.specs.declared.modules.Modules.{Modules}
use Rattle.theorem_leaves.specs.Citations.{HasKeys, unit_keys, theorems_in, units_keys, count_theorems, modules_keys}
use Rattle.theorem_leaves.specs.Chapters.{units_reported, modules_reported, chapters_of}
use Rattle.theorem_leaves.specs.Passing.{At, IsAt, IsBase, HasNames, AreDone, IsPassed, Passed, pass_units, pass_module, pass_modules}
use Rattle.theorem_leaves.proofs.Passing.{adds-passed, before-passed, theorems-passed, modules-passed}
use Rattle.theorem_leaves.proofs.Reached.{more-done}

-- ---- a module

pub start-at : (r : Reading) (ks : List Known) (i : ℕ) → IsBase ks (context_of r.context) → r.adds ≡ [] → r.before ≡ i → r.theorems ≡ []
    → IsAt r (record { front = ks; adds = []; before = i; theorems = [] })
start-at r ks i base adds before theorems = record {
  base = subst (λ l. IsBase l (context_of r.context)) (sym (append-nil ks)) base;
  adds = ap (map known_of) adds;
  before = before;
  theorems = theorems;
}

module _ (table : List Definition) (is_theorem : ℕ → Bool) (t : Table) where
  pub module-passed : (m : ℕ) (x : Module) (a : Passed) (old new : Modules) (r : Reading) (names : List Text) (d : Done) (c : Chapter)
      → HasNames names (reaches a.done x.extends)
      → IsAt r (pass_units table is_theorem t.entries (symbol t m) x.units (record { front = brought a.done (reaches a.done x.extends); adds = []; before = a.before; theorems = [] }))
      → d.name ≡ x.name → d.reaches ≡ names → d.adds ≡ r.adds → c.name ≡ x.name → c.theorems ≡ r.theorems
      → new.done.items ≡ old.done.items ++ d ∷ [] → new.before ≡ r.before → new.chapters ≡ old.chapters ++ c ∷ []
      → IsPassed old a → IsPassed new (pass_module table is_theorem t m x a)
  module-passed m x a old new r names d c reached at d-name d-reaches d-adds c-name c-theorems done before chapters passed = record {
    done = subst (λ l. AreDone l (a.done ++ last ∷ [])) (sym done)
        (more-done old.done.items a.done d last passed.done
        (record {
          name = d-name;
          reaches = subst (λ l. HasNames l ws) (sym d-reaches) reached;
          adds = ap (map known_of) d-adds ∙ at.adds ∙ adds-passed table is_theorem t.entries (symbol t m) x.units begun;
        }));
    before =
        before ∙ at.before ∙ before-passed table is_theorem t.entries (symbol t m) x.units begun
        ∙ ap (λ l. a.before + length (units_reported table is_theorem t.entries (symbol t m) a.before l x.units)) (append-nil ks);
    chapters =
        chapters ∙ (λ j. passed.chapters j ++ record { name = c-name j; theorems = (c-theorems ∙ theorems) j } ∷ []);
  }
    where
      ws : List Text
      ws = reaches a.done x.extends

      ks : List Known
      ks = brought a.done (reaches a.done x.extends)

      last : usable.Done
      last = record { name = x.name; reaches = reaches a.done x.extends; adds = units_adds t.entries (symbol t m) x.units }

      begun : At
      begun = record { front = brought a.done (reaches a.done x.extends); adds = []; before = a.before; theorems = [] }

      theorems : r.theorems ≡ units_reported table is_theorem t.entries (symbol t m) a.before (brought a.done (reaches a.done x.extends)) x.units
      theorems =
          at.theorems
          ∙ theorems-passed table is_theorem t.entries (symbol t m) x.units (record { front = brought a.done (reaches a.done x.extends); adds = []; before = a.before; theorems = [] })
          ∙ ap (λ l. units_reported table is_theorem t.entries (symbol t m) a.before l x.units) (append-nil (brought a.done (reaches a.done x.extends)))

-- ---- the keys of all theorems

keys-append : (xs ys : List Theorem) → keys_of (xs ++ ys) ≡ keys_of xs ++ keys_of ys
keys-append [] ys = refl
keys-append (x ∷ xs) ys = ap (λ l. x.key ∷ l) (keys-append xs ys)

module _ (entries : List Entry) (means : Means) where
  unit-keys : (i : ℕ) (known : List Known) (p : Place) (k : u) → (keys_of (unit_theorem entries means i known p k) ≡ unit_keys means i k) × (length (unit_theorem entries means i known p k) ≡ theorems_in k)
  unit-keys i known p (u.theorem w s own) = (refl, refl)
  unit-keys i known p (u.constants ds) = (refl, refl)
  unit-keys i known p (u.variables ds) = (refl, refl)
  unit-keys i known p (u.assume w t) = (refl, refl)
  unit-keys i known p (u.definition ds) = (refl, refl)

  units-keys : (xs : List Unit) (i : ℕ) (known : List Known)
      → (keys_of (units_theorems entries means i known xs) ≡ units_keys means i xs) × (length (units_theorems entries means i known xs) ≡ count_theorems xs)
  units-keys [] i known = (refl, refl)
  units-keys (x ∷ xs) i known =
      let ts = unit_theorem entries means i known x.place x.kind in
      let one = unit-keys i known x.place x.kind in
      let later = units_theorems entries means (i + length ts) (known ++ unit_adds entries means x.kind) xs in
      let more = units-keys xs (i + length ts) (known ++ unit_adds entries means x.kind) in (
        keys-append ts later ∙ (λ j. one.0 j ++ more.0 j) ∙ ap (λ n. unit_keys means i x.kind ++ units_keys means (i + n) xs) one.1,
        length-append ts later ∙ (λ j. one.1 j + more.1 j),
      )

modules-keys : (t : Table) (xs : List Module) (m i : ℕ) (ds : List usable.Done) → keys_of (joined (modules_theorems t m i ds xs)) ≡ modules_keys t m i xs
modules-keys t [] m i ds = refl
modules-keys t (x ∷ xs) m i ds =
    let ws = reaches ds x.extends in
    let ts = units_theorems t.entries (symbol t m) i (brought ds ws) x.units in
    let one = units-keys t.entries (symbol t m) x.units i (brought ds ws) in
    let more : List usable.Done = ds ++ record { name = x.name; reaches = ws; adds = units_adds t.entries (symbol t m) x.units } ∷ [] in
    keys-append ts (joined (modules_theorems t (suc m) (i + length ts) more xs))
    ∙ (λ j. one.0 j ++ modules-keys t xs (suc m) (i + length ts) more j)
    ∙ ap (λ n. units_keys (symbol t m) i x.units ++ modules_keys t (suc m) (i + n) xs) one.1

-- ---- all modules

pub chapters-passed : (ms : List Module) (t : Table) (table : List Definition) (set : List ℕ) → table ≡ definitions_of ms t → HasKeys set (modules_keys t 0 0 ms)
    → (pass_modules table (has_number set) t 0 ms (record { done = []; before = 0; chapters = [] })).chapters ≡ chapters_of ms t
unfolding chapters_of
chapters-passed ms t table set defs keys =
    modules-passed table (has_number set) t 0 ms (record { done = []; before = 0; chapters = [] })
    ∙ (λ j. modules_reported (defs j) (theorems j) t 0 0 [] ms)
  where
    theorems : has_number set ≡ is_theorem_of ms t
    theorems = λ j k. (keys k ∙ ap (λ l. has_number l k) (sym (modules-keys t ms 0 0 []))) j
