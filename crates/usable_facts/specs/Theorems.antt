-- The theorems of the modules, each with what is known before it.
use Rattle.std.specs.Prelude.{ℕ, suc, ◌+◌, Bool, false, ◌||◌, if◌then◌else◌, List, [], ◌∷◌, ◌++◌, length, Option, Some, None, Result, Ok, Err}
use Rattle.std_names.specs.Libraries.{is_library}
use Rattle.tla_ast.specs.declared.place.Place.{Place}
use Rattle.tla_ast.specs.declared.tree.Decl.{Decl}
use Rattle.tla_ast.specs.declared.fault.Fault.{Fault}
use Rattle.core_expr.specs.Tree.{Tree}
use Rattle.symbol_table.specs.declared.entry.Entry.{Entry}
use Rattle.symbol_table.specs.Scoped.{Table, symbol}
use Rattle.symbol_table.specs.Symbols.{symbol_at}
use Rattle.plain_syntax.specs.Plain.{Text, Statement, Proof, Unit, UnitKind as u, Module}
use Rattle.prime_expand.specs.Symbols.{is_word}
use Rattle.proof_contexts.specs.declared.leaf.Leaf.{Leaf}
use Rattle.proof_contexts.specs.Expansion.{has_number}
use Rattle.proof_contexts.specs.Contexts.{fact_of}
use Rattle.proof_contexts.specs.Statuses.{cites}
use Rattle.proof_contexts.specs.Theorems.{Known, Theorem, theorem_leaves}
use Rattle.proof_contexts.specs.Theorems.Known.{Assumption, Earlier}
use Rattle.proof_outline.specs.Outline.{outline}
use Rattle.usable_facts.specs.Keys.{entry_key, as_entry_key, theorem_key}
use Rattle.usable_facts.specs.Proofs.{core, statement, proof_of}
use Rattle.usable_facts.specs.Definitions.{Means, definitions_of}

abbrev pub number_of : Means → Option Decl → Option ℕ
number_of means None = None
number_of means (Some d) = means d.place

-- what step names mean; nothing where they have a fault
abbrev pub cites_in : Result (List (Place × ℕ)) Fault → List (Place × ℕ)
cites_in (Ok cs) = cs
cites_in (Err f) = []

-- only named theorems are known
abbrev pub earlier : Option ℕ → Tree → List Known
earlier None f = []
earlier (Some n) f = Earlier (entry_key n) f ∷ []

module _ (entries : List Entry) where
  abbrev pub statement_fact : Means → Statement → Tree
  statement_fact means s = let t = statement means entries s in fact_of t.items t.goal

  -- what is known after a unit: its assumption, or its theorem
  abbrev pub unit_adds : Means → u → List Known
  unit_adds means (u.assume w t) = Assumption (as_entry_key (number_of means w)) (core means entries t) ∷ []
  unit_adds means (u.theorem w s proof) = earlier (number_of means w) (statement_fact means s)
  unit_adds means _ = []

  -- i: how many theorems stand before; known: what is known before
  abbrev pub theorem_of : Means → ℕ → List Known → Place → Option Decl → Statement → Proof → Theorem
  theorem_of means i known p w s own =
      record {
        key = theorem_key i (number_of means w);
        known = known;
        statement = statement means entries s;
        proof = proof_of means (symbol_at (cites_in (outline own))) entries p 0 own;
      }

  abbrev pub unit_theorem : Means → ℕ → List Known → Place → u → List Theorem
  unit_theorem means i known p (u.theorem w s own) = theorem_of means i known p w s own ∷ []
  unit_theorem means i known p _ = []

  abbrev pub units_theorems : Means → ℕ → List Known → List Unit → List Theorem
  units_theorems means i known [] = []
  units_theorems means i known (x ∷ xs) =
      let ts = unit_theorem means i known x.place x.kind in
      ts ++ units_theorems means (i + length ts) (known ++ unit_adds means x.kind) xs

  abbrev pub units_adds : Means → List Unit → List Known
  units_adds means [] = []
  units_adds means (x ∷ xs) = unit_adds means x.kind ++ units_adds means xs

-- ---- modules

-- a module that was read before: its name, the names of all modules that it extends, directly or through others, and what it adds
pub record Done : Type 0 where
  pub name : Text
  pub reaches : List Text
  pub adds : List Known

abbrev pub reached_by : List Done → Text → List Text
reached_by [] w = []
reached_by (d ∷ ds) w = if is_word d.name w then d.reaches else reached_by ds w

abbrev pub is_done : List Done → Text → Bool
is_done [] w = false
is_done (d ∷ ds) w = is_word d.name w || is_done ds w

-- the modules that an EXTENDS leads to; a library's name leads to none
abbrev pub reaches : List Done → List (Text × Place) → List Text
reaches ds [] = []
reaches ds (e ∷ es) = if is_library e.0 then reaches ds es else (if is_done ds e.0 then e.0 ∷ (reached_by ds e.0 ++ reaches ds es) else reaches ds es)

abbrev pub is_reached : List Text → Text → Bool
is_reached [] w = false
is_reached (v ∷ vs) w = is_word v w || is_reached vs w

-- what these modules add, in the order of the modules
abbrev pub brought : List Done → List Text → List Known
brought [] ws = []
brought (d ∷ ds) ws = if is_reached ws d.name then d.adds ++ brought ds ws else brought ds ws

-- the theorems of each module; m: the number of the first, i: how many theorems stand before
abbrev pub modules_theorems : Table → ℕ → ℕ → List Done → List Module → List (List Theorem)
modules_theorems t m i ds [] = []
modules_theorems t m i ds (x ∷ xs) =
    let ws = reaches ds x.extends in
    let ts = units_theorems t.entries (symbol t m) i (brought ds ws) x.units in
    ts ∷ modules_theorems t (suc m) (i + length ts) (ds ++ record { name = x.name; reaches = ws; adds = units_adds t.entries (symbol t m) x.units } ∷ []) xs

-- the theorems of each module
abbrev pub theorems_of : List Module → Table → List (List Theorem)
theorems_of ms t = modules_theorems t 0 0 [] ms

-- the leaves of a theorem
abbrev pub leaves_of : List Module → Table → Theorem → List Leaf
leaves_of ms t x = theorem_leaves (definitions_of ms t) x

abbrev pub keys_of : List Theorem → List ℕ
keys_of [] = []
keys_of (x ∷ xs) = x.key ∷ keys_of xs

abbrev pub joined : List (List Theorem) → List Theorem
joined [] = []
joined (ts ∷ tss) = ts ++ joined tss

-- all theorems, in the order of the modules and their units
abbrev pub all_theorems : List Module → Table → List Theorem
all_theorems ms t = joined (theorems_of ms t)

-- which numbers are theorems'
abbrev pub is_theorem_of : List Module → Table → ℕ → Bool
is_theorem_of ms t = has_number (keys_of (all_theorems ms t))

abbrev pub chosen_keys : (ℕ → Bool) → List ℕ → List ℕ
chosen_keys is_theorem [] = []
chosen_keys is_theorem (k ∷ ks) = if is_theorem k then k ∷ chosen_keys is_theorem ks else chosen_keys is_theorem ks

-- the theorems that a proof cites in BY or USE, in the order of the text
abbrev pub cited_of : List Module → Table → Theorem → List ℕ
cited_of ms t x = chosen_keys (is_theorem_of ms t) (cites x.proof)
