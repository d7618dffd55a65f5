-- What a device tells of its content.
use Rattle.std.specs.Prelude.{◌≡◌, ◌≢◌, is_some, ℕ, ◌++◌, List, [], ◌∷◌, take, Option, None, Some, Result, Ok, Err, Vec, option_map, if◌then◌else◌}
use Rattle.std.specs.Str.{bytes_eq}
use Rattle.std.specs.declared.alloc.Global.{Global}
use Rattle.tla_io.specs.declared.faults.Failed.{Failed}
use Rattle.tla_io.specs.declared.faults.ShelfFault.{ShelfFault}
use Rattle.tla_io.specs.declared.faults.CacheFault.{CacheFault}

abbrev pub Bytes : Type 0
Bytes = List ℕ

-- a folder: the content of each name that it has
abbrev pub Folder : Type 0
Folder = Bytes → Option Bytes

-- a list of names with their contents as a folder: of two entries with one name the first counts
abbrev pub folder_of : List (Bytes × Bytes) → Folder
folder_of [] name = None
folder_of (entry ∷ entries) name = if bytes_eq entry.0 name then Some entry.1 else folder_of entries name

-- a fetch answers the front of what the folder has at the name, and None exactly where it has nothing there
abbrev pub Fetches : Option Folder → Bytes → ℕ → Result (Option (Vec ℕ Global)) ShelfFault → Type 0
Fetches None name at_most result = Unit {0}
Fetches (Some folder) name at_most (Ok found) = option_map (λ v. v.items) found ≡ option_map (take at_most) (folder name)
Fetches (Some folder) name at_most (Err fault) = Unit {0}

-- a read answers the front of the content, where that is told
abbrev pub ReadsFront : Option Bytes → ℕ → Result (Vec ℕ Global) CacheFault → Type 0
ReadsFront None at_most result = Unit {0}
ReadsFront (Some content) at_most (Ok v) = v.items ≡ take at_most content
ReadsFront (Some content) at_most (Err fault) = Unit {0}

-- the contents after a file was replaced: its own is these bytes where it is told, and all others are as they were
abbrev pub with_content : (Bytes → Option Bytes) → Bytes → Bytes → Bytes → Option Bytes
with_content content file bytes name = if bytes_eq name file then option_map (λ _. bytes) (content name) else content name

-- what was taken, with more bytes behind it, where that is told
abbrev pub with_more : Option Bytes → Bytes → Option Bytes
with_more told more = option_map (λ t. t ++ more) told

-- a write takes as many bytes of the front of the piece as it answers, behind what was taken before, and none where it fails
abbrev pub Takes : Option Bytes → Option Bytes → Bytes → Result ℕ Failed → Type 0
Takes old new piece (Ok n) = new ≡ with_more old (take n piece)
Takes old new piece (Err fault) = new ≡ old

-- the contents of a device that tells of no name
abbrev pub untold : Bytes → Option Bytes
untold name = None

-- of all names but this one the device tells what it told before
abbrev pub SameElsewhere : (Bytes → Option Bytes) → (Bytes → Option Bytes) → Bytes → Type 0
SameElsewhere old new file = (name : Bytes) → name ≢ file → new name ≡ old name

-- the device tells of the names of which it told before
abbrev pub SameNames : (Bytes → Option Bytes) → (Bytes → Option Bytes) → Type 0
SameNames old new = (name : Bytes) → is_some (new name) ≡ is_some (old name)
