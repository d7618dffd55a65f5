-- Passes over units and modules give the chapters that are defined.
use Rattle.std.proofs.Common.{◌≡◌, ℕ, suc, ◌+◌, Bool, List, [], ◌∷◌, ◌++◌, length, append_assoc, add_assoc, length-append, refl, sym, ap, ◌∙◌, arith}
use Rattle.std.proofs.lemmas.List.{append-nil}
use Rattle.obligation.specs.declared.obligation.Definition.{Definition}
use Rattle.symbol_table.specs.declared.entry.Entry.{Entry}
use Rattle.symbol_table.specs.Scoped.{Table, symbol}
use Rattle.tla_ast.specs.declared.place.Place.{Place}
use Rattle.plain_syntax.specs.Plain.{Unit, UnitKind as u, Module}
use Rattle.proof_contexts.specs.Theorems.{Known}
use Rattle.usable_facts.specs.Definitions.{Means}
use Rattle.usable_facts.specs.Theorems.{unit_adds, units_adds, reaches, brought}
use Rattle.theorem_leaves.specs.declared.chapter.TheoremLeaves.{TheoremLeaves}
use Rattle.theorem_leaves.specs.declared.chapter.Chapter.{Chapter}
use Rattle.theorem_leaves.specs.Citations.{theorems_in}
use Rattle.theorem_leaves.specs.Chapters.{unit_reported, units_reported, modules_reported}
use Rattle.theorem_leaves.specs.Passing.{At, pass_unit, pass_units, Passed, pass_module, pass_modules}

module _ (table : List Definition) (is_theorem : ℕ → Bool) where
  module _ (entries : List Entry) (means : Means) where
    one-each : (i : ℕ) (known : List Known) (p : Place) (k : u) → length (unit_reported table is_theorem entries means i known p k) ≡ theorems_in k
    one-each i known p (u.theorem w s own) = refl
    one-each i known p (u.constants ds) = refl
    one-each i known p (u.variables ds) = refl
    one-each i known p (u.assume w t) = refl
    one-each i known p (u.definition ds) = refl

    -- where a pass over units ends
    pub adds-passed : (xs : List Unit) (a : At) → (pass_units table is_theorem entries means xs a).adds ≡ a.adds ++ units_adds entries means xs
    adds-passed [] a = sym (append-nil a.adds)
    adds-passed (x ∷ xs) a =
        adds-passed xs (pass_unit table is_theorem entries means x.place x.kind a) ∙ append_assoc a.adds (unit_adds entries means x.kind) (units_adds entries means xs)

    abbrev Rest : List Unit → At → List TheoremLeaves
    Rest xs a = units_reported table is_theorem entries means a.before (a.front ++ a.adds) xs

    abbrev First : Unit → At → List TheoremLeaves
    First x a = unit_reported table is_theorem entries means a.before (a.front ++ a.adds) x.place x.kind

    counted : (x : Unit) (a : At) → a.before + theorems_in x.kind ≡ a.before + length (First x a)
    counted x a = ap (λ n. a.before + n) (sym (one-each a.before (a.front ++ a.adds) x.place x.kind))

    known-more : (x : Unit) (a : At) → a.front ++ (a.adds ++ unit_adds entries means x.kind) ≡ (a.front ++ a.adds) ++ unit_adds entries means x.kind
    known-more x a = sym (append_assoc a.front a.adds (unit_adds entries means x.kind))

    pub theorems-passed : (xs : List Unit) (a : At) → (pass_units table is_theorem entries means xs a).theorems ≡ a.theorems ++ Rest xs a
    theorems-passed [] a = sym (append-nil a.theorems)
    theorems-passed (x ∷ xs) a =
        let b = pass_unit table is_theorem entries means x.place x.kind a in
        theorems-passed xs b
        ∙ append_assoc a.theorems (First x a) (Rest xs b)
        ∙ (λ i. a.theorems ++ (First x a ++ units_reported table is_theorem entries means (counted x a i) (known-more x a i) xs))

    pub before-passed : (xs : List Unit) (a : At) → (pass_units table is_theorem entries means xs a).before ≡ a.before + length (Rest xs a)
    before-passed [] a = omega arith
    before-passed (x ∷ xs) a =
        let b = pass_unit table is_theorem entries means x.place x.kind a in
        let rest = units_reported table is_theorem entries means (a.before + length (First x a)) ((a.front ++ a.adds) ++ unit_adds entries means x.kind) xs in
        before-passed xs b
        ∙ (λ i. counted x a i + length (units_reported table is_theorem entries means (counted x a i) (known-more x a i) xs))
        ∙ add_assoc a.before (length (First x a)) (length rest)
        ∙ ap (λ n. a.before + n) (sym (length-append (First x a) rest))

  -- where a pass over modules ends
  pub modules-passed : (t : Table) (m : ℕ) (xs : List Module) (a : Passed)
      → (pass_modules table is_theorem t m xs a).chapters ≡ a.chapters ++ modules_reported table is_theorem t m a.before a.done xs
  modules-passed t m [] a = sym (append-nil a.chapters)
  modules-passed t m (x ∷ xs) a =
      let b = pass_module table is_theorem t m x a in
      let ws = reaches a.done x.extends in
      let here : List Chapter = record { name = x.name; theorems = units_reported table is_theorem t.entries (symbol t m) a.before (brought a.done ws) x.units } ∷ [] in
      modules-passed t (suc m) xs b ∙ append_assoc a.chapters here (modules_reported table is_theorem t (suc m) b.before b.done xs)
