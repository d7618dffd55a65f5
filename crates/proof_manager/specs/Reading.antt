-- What is read of modules: what their names mean; or the first fault.
use Rattle.std.specs.Prelude.{ℕ, suc, List, [], ◌∷◌, map, take, Option, Some, None, Result, Ok, Err}
use Rattle.tla_io.specs.Told.{Bytes, Folder}
use Rattle.tla_ast.specs.declared.fault.Fault.{Fault}
use Rattle.tla_ast.specs.declared.fault.Fault.TheVariants as step_fault
use Rattle.tla_ast.specs.declared.fault.ScopeFault.{ScopeFault}
use Rattle.tla_ast.specs.declared.fault.ScopeFault.TheVariants as fault
use Rattle.plain_syntax.specs.Plain as plain
use Rattle.plain_syntax.specs.Plain.{Text, UnitKind as u, Module}
use Rattle.plain_syntax.specs.Syntax.{module_of}
use Rattle.symbol_table.specs.Scoped.{Table}
use Rattle.module_scope.specs.Resolution.{resolution}
use Rattle.module_shelf.specs.declared.fault.LoadFault.{LoadFault}
use Rattle.module_shelf.specs.declared.fault.LoadFault.TheVariants as load
use Rattle.module_shelf.specs.Loading.{Outcome, followed, loading}
use Rattle.proof_contexts.specs.Contexts.{given}
use Rattle.proof_outline.specs.Outline.{outline}

-- a value, or a fault in a module
abbrev pub Answer : Type 0 → Type 0
Answer A = Result A ScopeFault

-- what follows from a value, or the fault
abbrev pub and_then : {A B : Type 0} → Answer A → (A → Answer B) → Answer B
and_then (Ok a) next = next a
and_then (Err e) next = Err e

-- ---- step names

-- a fault in a module of this name
abbrev pub in_module : Text → Fault → ScopeFault
in_module name step_fault.Memory = fault.Memory
in_module name (step_fault.At p k) = fault.At name p k

abbrev pub fault_in : {A : Type 0} → Result A Fault → Option Fault
fault_in (Ok a) = None
fault_in (Err e) = Some e

-- the fault of the step names of a unit's theorem, if it is one
abbrev pub unit_fault : u → Option Fault
unit_fault (u.theorem w s own) = fault_in (outline own)
unit_fault _ = None

-- the first in the order of the text
abbrev pub units_fault : List plain.Unit → Option Fault
units_fault [] = None
units_fault (x ∷ xs) = given (unit_fault x.kind) (units_fault xs) (λ e. Some e)

-- the first module with a fault of step names, counted on: how many modules stand before it, and the fault
abbrev pub fault_from : ℕ → List Module → Option (ℕ × ScopeFault)
fault_from n [] = None
fault_from n (x ∷ xs) = given (units_fault x.units) (fault_from (suc n) xs) (λ e. Some (n, in_module x.name e))

abbrev pub modules_fault : List Module → Option (ℕ × ScopeFault)
modules_fault ms = fault_from 0 ms

-- ---- names

-- In each module, in module order, the step names come first. So the names of the modules before the first with a fault of step names
-- are looked up before that fault.
abbrev pub resolved : Option (ℕ × ScopeFault) → List Module → Answer Table
resolved None ms = resolution ms
resolved (Some f) ms = and_then (resolution (take f.0 ms)) (λ t. Err f.1)

abbrev pub checked : List Module → Answer Table
checked ms = resolved (modules_fault ms) ms

-- ---- what is read

-- modules, and what their names mean
pub record Read : Type 0 where
  pub modules : List Module
  pub table : Table

-- what the modules say; or the first fault of step names or of names
unfoldable pub read_of : List Module → Answer Read
read_of ms = and_then (checked ms) (λ t. Ok (record { modules = ms; table = t }))

-- the same fault as one of the loading
abbrev pub load_fault : ScopeFault → LoadFault
load_fault fault.Memory = load.Memory
load_fault (fault.At owner p kind) = load.Refused owner p kind

abbrev pub as_outcome : {A : Type 0} → Answer A → Outcome A
as_outcome (Ok a) = Ok a
as_outcome (Err e) = Err (load_fault e)

-- What the modules say that are loaded for a name, or the first fault: one of the loading before all others. The text of the module with
-- this name is the given one, where there is one, or else what a folder has for the name; the folder has the others.
unfoldable pub reading : Option Bytes → Folder → Bytes → Outcome Read
reading given folder root = followed (loading given folder root) (λ ms. as_outcome (read_of (map module_of ms)))
