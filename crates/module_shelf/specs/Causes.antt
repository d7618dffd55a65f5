-- How a loading ends, by its answer.
use Rattle.std.specs.Prelude.{◌≡◌, ℕ, ◌≤◌, Option, Some, None, Ok, Err}
use Rattle.tla_io.specs.Causes.{Rose}
use Rattle.tla_io.specs.Told.{Folder}
use Rattle.module_shelf.specs.Loading.{Outcome}
use Rattle.module_shelf.specs.declared.fault.LoadFault.{LoadFault}
use Rattle.module_shelf.specs.declared.fault.LoadFault.TheVariants as load

-- a fact on what a shelf tells, where it tells it
abbrev pub WhereTold : Option Folder → (Folder → Type 0) → Type 0
WhereTold None P = Unit {0}
WhereTold (Some folder) P = P folder

-- the loading stops with this fault, unless the shelf failed or memory was not found
abbrev pub Stops : {A : Type 0} → LoadFault → Outcome A → Type 0
Stops load.ReadFault defined = Unit {0}
Stops load.Memory defined = Unit {0}
Stops (load.NotFound name) defined = defined ≡ Err (load.NotFound name)
Stops (load.Refused owner place kind) defined = defined ≡ Err (load.Refused owner place kind)

-- the answer's value, seen so, is the one that is defined, and where the answer is a fault, the loading stops so
abbrev pub Ends : {T A : Type 0} → (T → A) → Outcome T → Outcome A → Type 0
Ends view (Ok x) defined = defined ≡ Ok (view x)
Ends view (Err e) defined = Stops e defined

-- the shelf's count rose for a read fault, and else it stays
abbrev pub FaultCause : LoadFault → ℕ → ℕ → Type 0
FaultCause load.ReadFault before now = (before ≤ now) × Rose before now
FaultCause _ before now = now ≡ before

-- the same of an answer
abbrev pub LoadCause : {T : Type 0} → Outcome T → ℕ → ℕ → Type 0
LoadCause (Ok x) before now = now ≡ before
LoadCause (Err e) before now = FaultCause e before now

-- what is seen of a shelf: the folder, where it tells it, and its count
abbrev pub Seen : Type 0
Seen = Option Folder × ℕ

-- what a call that loads from a shelf answers: what is defined for the folder that is told, with the cause of a fault; the shelf
-- tells the same folder after it
pub record Loads {T A : Type 0} (r : Outcome T) (view : T → A) (defined : Folder → Outcome A) (before now : Seen) : Type 0 where
  pub told : (folder : Folder) → before.0 ≡ Some folder → Ends view r (defined folder)
  pub cause : LoadCause r before.1 now.1
  pub kept : now.0 ≡ before.0
