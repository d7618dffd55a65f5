-- The theorems of all chapters are reports of all theorems, each in its place.
use Rattle.std.proofs.Common.{◌≡◌, ℕ, suc, ◌+◌, Bool, List, [], ◌∷◌, ◌++◌, length, refl, ap, subst}
use Rattle.obligation.specs.declared.obligation.Definition.{Definition}
use Rattle.symbol_table.specs.declared.entry.Entry.{Entry}
use Rattle.symbol_table.specs.Scoped.{Table, symbol}
use Rattle.tla_ast.specs.declared.place.Place.{Place}
use Rattle.plain_syntax.specs.Plain.{Unit, UnitKind as u, Module}
use Rattle.proof_contexts.specs.Theorems.{Known, Theorem}
use Rattle.usable_facts.specs.Definitions.{Means, definitions_of}
use Rattle.usable_facts.specs.Theorems.{unit_theorem, units_theorems, unit_adds, units_adds, Done, reaches, brought, modules_theorems, joined, is_theorem_of}
use Rattle.theorem_leaves.specs.declared.chapter.TheoremLeaves.{TheoremLeaves}
use Rattle.theorem_leaves.specs.Chapters.{ChaptersReport, AreReports, reports_in, unit_reported, units_reported, modules_reported, chapters_of}

module _ (table : List Definition) (is_theorem : ℕ → Bool) where
  as-many : (rs : List TheoremLeaves) (xs : List Theorem) → AreReports table is_theorem rs xs → length rs ≡ length xs
  as-many [] [] h = refl
  as-many [] (x ∷ xs) h = absurd h
  as-many (r ∷ rs) [] h = absurd h
  as-many (r ∷ rs) (x ∷ xs) h = ap suc (as-many rs xs h.1)

  more-reports : (rs ss : List TheoremLeaves) (xs ys : List Theorem) → AreReports table is_theorem rs xs → AreReports table is_theorem ss ys → AreReports table is_theorem (rs ++ ss) (xs ++ ys)
  more-reports [] ss [] ys h k = k
  more-reports [] ss (x ∷ xs) ys h k = absurd h
  more-reports (r ∷ rs) ss [] ys h k = absurd h
  more-reports (r ∷ rs) ss (x ∷ xs) ys h k = (h.0, more-reports rs ss xs ys h.1 k)

  module _ (entries : List Entry) (means : Means) where
    unit-reports : (i : ℕ) (known : List Known) (p : Place) (k : u) → AreReports table is_theorem (unit_reported table is_theorem entries means i known p k) (unit_theorem entries means i known p k)
    unit-reports i known p (u.theorem w s own) = (record { key = refl; cited = refl; leaves = refl }, tt)
    unit-reports i known p (u.constants ds) = tt
    unit-reports i known p (u.variables ds) = tt
    unit-reports i known p (u.assume w t) = tt
    unit-reports i known p (u.definition ds) = tt

    units-reports : (xs : List Unit) (i : ℕ) (known : List Known) → AreReports table is_theorem (units_reported table is_theorem entries means i known xs) (units_theorems entries means i known xs)
    units-reports [] i known = tt
    units-reports (x ∷ xs) i known =
        let rs = unit_reported table is_theorem entries means i known x.place x.kind in
        let ts = unit_theorem entries means i known x.place x.kind in
        let one = unit-reports i known x.place x.kind in
        let more = known ++ unit_adds entries means x.kind in
        more-reports rs (units_reported table is_theorem entries means (i + length rs) more xs) ts (units_theorems entries means (i + length ts) more xs) one
        (subst (λ n. AreReports table is_theorem (units_reported table is_theorem entries means (i + length rs) more xs) (units_theorems entries means (i + n) more xs)) (as-many rs ts one)
        (units-reports xs (i + length rs) more))

  modules-reports : (t : Table) (xs : List Module) (m i : ℕ) (ds : List Done) → AreReports table is_theorem (reports_in (modules_reported table is_theorem t m i ds xs)) (joined (modules_theorems t m i ds xs))
  modules-reports t [] m i ds = tt
  modules-reports t (x ∷ xs) m i ds =
      let ws = reaches ds x.extends in
      let rs = units_reported table is_theorem t.entries (symbol t m) i (brought ds ws) x.units in
      let ts = units_theorems t.entries (symbol t m) i (brought ds ws) x.units in
      let one = units-reports t.entries (symbol t m) x.units i (brought ds ws) in
      let more : List Done = ds ++ record { name = x.name; reaches = ws; adds = units_adds t.entries (symbol t m) x.units } ∷ [] in
      more-reports rs (reports_in (modules_reported table is_theorem t (suc m) (i + length rs) more xs)) ts (joined (modules_theorems t (suc m) (i + length ts) more xs)) one
      (subst (λ n. AreReports table is_theorem (reports_in (modules_reported table is_theorem t (suc m) (i + length rs) more xs)) (joined (modules_theorems t (suc m) (i + n) more xs))) (as-many rs ts one)
      (modules-reports t xs (suc m) (i + length rs) more))

pub chapters_report : ChaptersReport
unfolding chapters_of
chapters_report ms t = modules-reports (definitions_of ms t) (is_theorem_of ms t) t ms 0 0 []
