-- What the code answers for a module, and for all.
use Rattle.std.specs.Prelude.{◌≡◌, ℕ, List, Some, None, Result, Ok, Err}
use Rattle.tla_ast.specs.declared.place.Place.{Place}
use Rattle.tla_ast.specs.declared.fault.Kind.{Kind}
use Rattle.tla_ast.specs.declared.fault.ScopeFault.{ScopeFault}
use Rattle.tla_ast.specs.declared.fault.ScopeFault.TheVariants as fault
use Rattle.plain_syntax.specs.Plain.{Text, Module}
use Rattle.symbol_table.specs.Scoped.{Table}
use Rattle.module_scope.specs.Scope.{Scope}
use Rattle.module_scope.specs.Names.{Book, scope_of, symbols_of, faults_of}
use Rattle.module_scope.specs.Resolution.{Exports, module_names, least, emptied}

-- a module without a fault: what it gives to others and what its names mean
abbrev pub Finished : Exports → Module → Book → Book → Text × Scope → List (Place × ℕ) → Type 0
Finished es m before after export symbols =
    let c = module_names es m before in
    (least (faults_of c) ≡ None) × (export ≡ (m.name, scope_of c)) × (symbols ≡ symbols_of c) × (emptied after ≡ emptied c)

-- the fault of a module that is told, unless memory was not found
abbrev pub Refused : Exports → Module → Book → ScopeFault → Type 0
Refused es m before e =
    (e ≡ fault.Memory → ⊥) → (f : Place × Kind) × (least (faults_of (module_names es m before)) ≡ Some f) × (e ≡ fault.At m.name f.0 f.1)

-- the answer is the one that is defined, unless memory was not found
abbrev pub Answers : Result Table ScopeFault → Result Table ScopeFault → Type 0
Answers (Ok t) defined = defined ≡ Ok t
Answers (Err e) defined = (e ≡ fault.Memory → ⊥) → defined ≡ Err e
