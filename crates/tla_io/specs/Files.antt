-- What reading a file's front and the name beside a file are.
use Rattle.std.specs.Prelude.{◌≡◌, ◌≢◌, ◌≤◌, ℕ, [], ◌++◌, Vec, take, length, codes, Option, None, Some, IsSome, Result, Ok, Err, option_map, unwrap_or}
use Rattle.std.specs.IoError.{error_kind}
use Rattle.std.specs.declared.io.Error.{Error}
use Rattle.std.specs.declared.io.ErrorKind.TheVariants.{NotFound, InvalidData}
use Rattle.std.specs.Iterator.{DrainsIf}
use Rattle.std.specs.Vec.Iter.{into_iter_steps}
use Rattle.std.specs.declared.vec.IntoIter.{IntoIter}
use Rattle.std.specs.declared.alloc.Global.{Global}
use Rattle.core_expr.specs.declared.memory.Memory.{Memory}
use Rattle.tla_io.specs.Told.{Bytes, Folder}
use Rattle.tla_io.specs.declared.faults.CacheFault.{CacheFault}
use Rattle.tla_io.specs.declared.front.Front.{Front}
use Rattle.tla_io.specs.declared.front.Front.TheVariants as front

-- a device, and how often it has failed
pub record Counted (D : Type 0) : Type 0 where
  pub device : D
  pub faults : ℕ

-- a path opens as a file that gives all the bytes held there, and as an absence only where nothing is held
abbrev pub Opens : {F : Type 0} → (F → Option Bytes) → Option Folder → Bytes → Result F Error → Type 0
Opens left None path result = Unit {0}
Opens left (Some held) path (Ok file) = IsSome (held path) × (left file ≡ held path)
Opens left (Some held) path (Err e) = error_kind e ≡ NotFound → held path ≡ None

-- the file of a module stands under its name and `.tla`
abbrev pub module_path : Bytes → Bytes
module_path name = name ++ codes ".tla"

-- the modules of a folder of files
abbrev pub modules_of : Option Folder → Option Folder
modules_of files = option_map (λ (held : Folder) (name : Bytes). held (module_path name)) files

-- the bytes read are the front of what the reader had left, where that is known
abbrev pub IsFront : Front → Option Bytes → ℕ → Type 0
IsFront (front.Bytes bytes) None at_most = Unit {0}
IsFront (front.Bytes bytes) (Some left) at_most = bytes.items ≡ take at_most left
IsFront front.Missing left at_most = ⊥
IsFront front.Failed left at_most = Unit {0}
IsFront front.Memory left at_most = Unit {0}

-- the bytes read are the front of what is held, and a file is missing only where nothing is held, where that is told
abbrev pub IsFrontAt : Front → Option Folder → Bytes → ℕ → Type 0
IsFrontAt result None path at_most = Unit {0}
IsFrontAt (front.Bytes bytes) (Some held) path at_most = Some bytes.items ≡ option_map (take at_most) (held path)
IsFrontAt front.Missing (Some held) path at_most = held path ≡ None
IsFrontAt front.Failed (Some held) path at_most = Unit {0}
IsFrontAt front.Memory (Some held) path at_most = Unit {0}

-- what is read is the front of what is held, and nothing where no file is, where that is told
abbrev pub ReadsFile : Option Folder → Bytes → ℕ → Result (Vec ℕ Global) CacheFault → Type 0
ReadsFile None path at_most result = Unit {0}
ReadsFile (Some held) path at_most (Ok bytes) = bytes.items ≡ take at_most (unwrap_or (held path) [])
ReadsFile (Some held) path at_most (Err fault) = Unit {0}

-- the bytes were put into the file beside this one, and that was given this one's path
abbrev pub IsReplaced : (Bytes → Bytes → Type 0) → (Bytes → Bytes → Type 0) → Bytes → Bytes → Type 0
IsReplaced was_put was_renamed path bytes = was_put (path ++ codes ".new") bytes × was_renamed (path ++ codes ".new") path

-- no more bytes were read than were asked for
abbrev pub IsWithin : Front → ℕ → Type 0
IsWithin (front.Bytes bytes) at_most = length bytes.items ≤ at_most
IsWithin front.Missing at_most = Unit {0}
IsWithin front.Failed at_most = Unit {0}
IsWithin front.Memory at_most = Unit {0}

-- the words that were read: none where one of them is no UTF-8, and any other error is want of memory
abbrev pub HasWords : {X Z : Type 0} → Result (IntoIter X Z) Error → Result (Vec X Global) Memory → Type 0
HasWords (Ok words) (Ok list) = DrainsIf into_iter_steps (Unit {0}) words list.items
HasWords (Ok words) (Err e) = Unit {0}
HasWords (Err e) (Ok list) = (error_kind e ≡ InvalidData) × (list.items ≡ [])
HasWords (Err e) (Err m) = error_kind e ≢ InvalidData
