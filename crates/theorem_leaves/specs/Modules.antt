-- What the functions that read modules do.
use Rattle.std.specs.Prelude.{◌≡◌, ℕ, List, [], ◌∷◌, ◌++◌, map, if◌then◌else◌, Option, Some, None, fold}
use Rattle.std_names.specs.Libraries.{is_library}
use Rattle.tla_ast.specs.declared.unit.Module.{Module as source_module}
use Rattle.plain_syntax.specs.Plain.{Text}
use Rattle.plain_syntax.specs.Syntax.{module_of}
use Rattle.proof_contexts.specs.Contexts.{Context, Entry, add}
use Rattle.proof_contexts.specs.Expansion.{has_number}
use Rattle.proof_contexts.specs.Theorems.{entry_of}
use Rattle.known_facts.specs.Clean.{definitions_of}
use Rattle.usable_facts.specs.Theorems as usable
use Rattle.usable_facts.specs.Theorems.{is_done, reached_by}
use Rattle.prime_expand.specs.Symbols.{is_word}
use Rattle.theorem_leaves.specs.declared.unit.Known.{Known}
use Rattle.theorem_leaves.specs.Additions.{known_of}
use Rattle.theorem_leaves.specs.declared.modules.Done.{Done}
use Rattle.theorem_leaves.specs.declared.modules.Whole.{Whole}
use Rattle.theorem_leaves.specs.Passing.{Passed, pass_module, pass_modules}

-- the first of the modules with this name
abbrev pub found : List Done → Text → Option Done
found [] w = None
found (d ∷ ds) w = if is_word d.name w then Some d else found ds w

-- what an extended name leads to
abbrev pub led : List usable.Done → Text → List Text
led ds w = if is_library w then [] else (if is_done ds w then w ∷ reached_by ds w else [])

-- the context with several more known facts
abbrev pub told : List Known → Context → Context
told ks c = fold (λ d k. add d (entry_of (known_of k))) c ks

abbrev pub Tells : List Known → Context → Context → Type 0
Tells ks c d = d ≡ told ks c

-- what those of the modules with these names add, as known facts of a context
abbrev pub brings : List Done → List Text → List Entry
brings [] ws = []
brings (d ∷ ds) ws = if usable.is_reached ws d.name then map entry_of (map known_of d.adds) ++ brings ds ws else brings ds ws

module _ (w : Whole) where
  abbrev pub passed_module : ℕ → source_module → Passed → Passed
  passed_module m x = pass_module (definitions_of w.table.now) (has_number w.theorems.now.keys) w.scoped.now m (module_of x)

  abbrev pub passed_modules : ℕ → List source_module → Passed → Passed
  passed_modules m xs = pass_modules (definitions_of w.table.now) (has_number w.theorems.now.keys) w.scoped.now m (map module_of xs)

-- before the first module
abbrev pub nothing : Passed
nothing = record { done = []; before = 0; chapters = [] }
